-- What is answered, by its number and values: they fix it.
-- Assumes nothing.
use Prim.Native.Nat.{ℕ}
use mathlib.Core.Path.{◌≡◌, refl, sym, ap, subst, ◌∙◌}
use mathlib.Core.List.{List}
use lib.Dec.{eqb}
use lib.ListN.{get_or}
use Rattle.octets.specs.Choice.{pick}
use Rattle.std.specs.Prelude.{Result, Ok, Err}
use Rattle.refusals.specs.declared.Refusal.{Refusal}
use Rattle.refusals.specs.Refusals.{refusal_number, refusal_by}
use Rattle.refusals.proofs.Numbers.{above_zero, by_number, number_fixed}
use Rattle.walk.specs.Walk.{begin}
use Rattle.walk.specs.Records.{judged}
use Rattle.why.specs.declared.Reason.{Reason}
use Rattle.why.specs.declared.Reason.TheVariants.{HandedOut, Lost, Refused, NotStanding, SameSync, SteppedOver}
use Rattle.why.specs.Why.{Applies, why_refusal_of, reason_values, Answers}
use Rattle.why.proofs.Reasons.{only_reason, positive}

-- a reason of its values
abbrev reason_by : List ℕ → Reason
reason_by vs =
    pick (eqb (get_or vs 0 0) 0) HandedOut
    (pick (eqb (get_or vs 0 0) 1) (Lost (refusal_by (get_or vs 1 0)))
    (pick (eqb (get_or vs 0 0) 2) (Refused (refusal_by (get_or vs 1 0)))
    (pick (eqb (get_or vs 0 0) 3) NotStanding
    (pick (eqb (get_or vs 0 0) 4) SameSync (SteppedOver (get_or vs 2 0))))))

back : (r : Reason) → reason_by (reason_values r) ≡ r
back HandedOut = refl
back (Lost n) = ap (λ (x : Refusal). Lost x) (by_number n)
back (Refused n) = ap (λ (x : Refusal). Refused x) (by_number n)
back NotStanding = refl
back SameSync = refl
back (SteppedOver q) = refl

pub reason_fixed : (r t : Reason) → reason_values r ≡ reason_values t → r ≡ t
reason_fixed r t e = sym (back r) ∙ ap reason_by e ∙ back t

module _ (bytes : List ℕ) (limit place : ℕ) where
  -- a reason is answered where nothing is refused and it applies, and a number where that is the refusal
  pub because : (r : Reason) → why_refusal_of bytes limit place ≡ 0 → Applies bytes limit place r → Answers bytes limit place (Ok r)
  because r z a = record { number = sym z; reasoned = λ y. record { reason = r; applies = a; same = refl }; refused = λ f. absurd (f z) }

  pub because_is : (r : Reason) → Answers bytes limit place (Ok r) → (why_refusal_of bytes limit place ≡ 0) × Applies bytes limit place r
  because_is r a =
      let z = sym a.number in
      let x = a.reasoned z in
      (z, subst (Applies bytes limit place) (sym (reason_fixed r x.reason x.same)) x.applies)

  pub refusing : (n : Refusal) → refusal_number n ≡ why_refusal_of bytes limit place → Answers bytes limit place (Err n)
  refusing n e = record { number = e; reasoned = λ z. absurd (above_zero n (e ∙ z)); refused = λ g. refl }

  pub refusing_is : (n : Refusal) → Answers bytes limit place (Err n) → refusal_number n ≡ why_refusal_of bytes limit place
  refusing_is n a = a.number

  -- ONE ANSWER: two answers to a question are equal, so the function's reason is the one that applies
  pub answer_fixed : (a b : Result Reason Refusal) → Answers bytes limit place a → Answers bytes limit place b → a ≡ b
  answer_fixed (Ok r) (Ok t) a b =
      ap (λ (x : Reason). Ok x) (only_reason (judged limit bytes) (positive bytes limit place) place begin r t (because_is r a).1 (because_is t b).1)
  answer_fixed (Ok r) (Err n) a b = absurd (above_zero n (b.number ∙ sym a.number))
  answer_fixed (Err n) (Ok r) a b = absurd (above_zero n (a.number ∙ sym b.number))
  answer_fixed (Err n) (Err m) a b = ap (λ (x : Refusal). Err x) (number_fixed n m (a.number ∙ sym b.number))
