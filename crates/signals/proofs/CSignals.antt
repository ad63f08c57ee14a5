-- THE C ENTRY GATHERS: calls that begin with 24 zero bytes hand on exactly the items of the definitions.
-- Assumes nothing.
use mathlib.Core.List.{List, [], ◌∷◌, ◌++◌, append_assoc, append-nil}
use mathlib.Core.Option.{Option}
use mathlib.Core.Path.{◌≡◌, refl, sym, ap, subst, ◌∙◌}
use Prim.Native.Nat.{ℕ, ◌≤◌}
use native.Mathlib.Omega.{arith}
use lib.ListN.{length, replicate}
use borrow.Author.Tests.{eq-eqb, le-ltb}
use Rattle.signalling.specs.declared.State.{State}
use Rattle.signalling.specs.declared.Step.{Step}
use Rattle.signalling.specs.Feeding.{giving, run}
use Rattle.signalling.specs.Groups.{Frame, gathering}
use Rattle.signalling.specs.Messages.{Handed, items, stringing}
use Rattle.signalling.specs.OnNumbers.{step_by, step_buffer, beginning}
use Rattle.signalling.specs.Following.{Steps, Holds, shown, with_more}
use Rattle.signalling.proofs.Fed.{giving_then}
use Rattle.signalling.proofs.Holding.{steps_on, begins}
use Rattle.signalling.proofs.StepFixed.{is_step}
use Rattle.signals.specs.SignalBytes.{state_at, item_at, signal_refusal, Accepted, left_by, Signalled, SignalCalls}
use Rattle.signals.specs.SignalClauses.{Left}
use Rattle.signals.proofs.SignalBack.{none_holds, zero-begins_signal}

-- ---- one call
pub given : (fp mnsc : ℕ) (w l : List ℕ) (s : State) (r : Step) (w' l' : List ℕ) → signal_refusal w l ≡ 0 → 1538 ≤ length l → s ≡ state_at w
    → Steps s fp mnsc l r l' → Left r.item r.state w' → Signalled fp mnsc w l 0 w' l'
given fp mnsc w l s r w' l' z long e t k =
    let long-enough = le-ltb (length l) 1538 long in
    let step : r ≡ step_by (state_at w) fp mnsc = is_step s fp mnsc l r l' t long ∙ (rw e) in
    let buffer : l' ≡ step_buffer (state_at w) fp mnsc l = t.buffer ∙ rw (long-enough, e) in
    let zero = eq-eqb (signal_refusal w l) 0 z in
    record {
      number = sym z;
      signal = k.bytes ∙ ap left_by step ∙ rw zero;
      buffer = buffer ∙ rw zero;
      state = λ q. k.state ∙ ap (λ (x : Step). x.state) step;
      item = λ q. k.item ∙ ap (λ (x : Step). x.item) step;
      next = λ q. k.next;
    }

-- ---- calls
called : (seen : List Frame) (w l : List ℕ) (fs : List Frame) (xs : List Handed) → Holds (gathering seen) (stringing seen) (state_at w) l → Accepted w → SignalCalls w l fs xs
    → items (seen ++ fs) ≡ items seen ++ xs
called seen w l [] [] h a SignalCalls.over = ap items (append-nil seen) ∙ sym (append-nil (items seen))
called seen w l (f ∷ fs) _ h a (SignalCalls.call {w' = w'} {l'} {xs = xs} t c) =
    let z = a l h.room in
    let r = step_by (state_at w) f.fp f.mnsc in
    let buffer : l' ≡ step_buffer (state_at w) f.fp f.mnsc l = t.buffer ∙ rw (eq-eqb (signal_refusal w l) 0 z) in
    let k = (steps_on (state_at w) f.fp f.mnsc l r l' h.room (record { step = refl; buffer = buffer })).follows seen h in
    let item : shown l' (item_at w') ≡ shown l' r.item = ap (shown l') (t.item z) in
    ap items (sym (append_assoc seen (f ∷ []) fs))
    ∙ called (with_more seen f) w' l' fs xs (subst (λ (q : State). Holds (gathering (with_more seen f)) (stringing (with_more seen f)) q l') (sym (t.state z)) k.holds) (t.next z) c
    ∙ ap (λ (x : List Handed). x ++ xs) k.item
    ∙ append_assoc (items seen) (giving (shown l' r.item) []) xs
    ∙ ap (λ (x : List Handed). items seen ++ x) (sym (giving_then (shown l' r.item) xs) ∙ ap (λ (x : Option Handed). giving x xs) (sym item))
called seen w l [] (_ ∷ _) h a x8 = elim x8 [ ]

zeros_accepted : Accepted (replicate 24 0)
zeros_accepted l h = none_holds (replicate 24 0) l refl h (omega arith) (omega arith)

-- over 24 zero bytes and any buffer that is long enough: the calls hand on the items of the frames, all of them and nothing else
pub c_signals : (l : List ℕ) (fs : List Frame) (xs : List Handed) → 1538 ≤ length l → SignalCalls (replicate 24 0) l fs xs → items fs ≡ xs
unfolding run
c_signals l fs xs h c =
    called [] (replicate 24 0) l fs xs (rw zero-begins_signal ((begins beginning refl).holds l h)) zeros_accepted c
