-- One frame more: the state's numbers and the buffer hold what the definitions have, and so over any number of calls.
-- Assumes nothing.
use mathlib.Core.Bool.{Bool, true, false}
use mathlib.Core.List.{List, [], ◌∷◌, ◌++◌, append_assoc, append-nil}
use mathlib.Core.Option.{Option, none, some}
use mathlib.Core.Path.{◌≡◌, refl, sym, ap, ◌∙◌}
use Prim.Native.Nat.{ℕ, zero, suc, ◌/◌, ◌%◌, ◌≤◌, ◌<◌}
use native.Mathlib.Nat.{mod-lt}
use native.Mathlib.Omega.{arith}
use lib.Dec.{eqb, lit<, lit≤}
use lib.ListN.{length}
use borrow.Author.Tests.{lt-ltb, le-ltb}
use Rattle.sum.specs.Sum.{sent}
use Rattle.refusals.specs.declared.Refusal.TheVariants.{Length}
use Rattle.signalling.specs.declared.Opened.{Opened}
use Rattle.signalling.specs.declared.State.{State}
use Rattle.signalling.specs.declared.Item.TheVariants.{Refused}
use Rattle.signalling.specs.declared.Step.{Step}
use Rattle.signalling.specs.Feeding.{Took, giving, run, rest}
use Rattle.signalling.specs.Groups.{Frame, Gathering, Gathered, group, sofar, out_of_turn, gather, groups, gathering}
use Rattle.signalling.specs.Messages.{kind_of, Strung, shut, Handed, string, items, stringing}
use Rattle.signalling.specs.OnNumbers.{item_values, buffer_by, out_item, afresh_by, join_by, whole_by, step_by, step_buffer, beginning}
use Rattle.signalling.specs.GroupClauses.{Stepping}
use Rattle.signalling.specs.Following.{shown, gathering_of, Strings, Holds, with_more, Follows, Steps, Begins, Calls}
use Rattle.signalling.proofs.Fed.{giving_then, run_snoc, rest_snoc}
use Rattle.signalling.proofs.Stringing.{whole}

-- what is strung of a thing gathered, or of none
abbrev fed_on : Strung → Option Gathered → Took Strung Handed
fed_on o none = record { gives = none; goes = o }
fed_on o (some x) = string o x

-- the step's result and the buffer l hold what is gathered, t, and what is strung of it, u
record Stepped (t : Took Gathering Gathered) (u : Took Strung Handed) (r : Step) (l : List ℕ) : Type 0 where
  item : shown l r.item ≡ u.gives
  holds : Holds t.goes u.goes r.state l

module _ (fp mnsc : ℕ) (m : Opened) (l : List ℕ) (o : Strung) (strung : Strings o m l) (room : 1538 ≤ length l) where
  abbrev f : Frame
  f = record { fp = fp; mnsc = mnsc }

  out : (w c : Bool) → eqb (fp % 4) 0 ≡ c
      → Stepped (out_of_turn w f) (fed_on o (out_of_turn w f).gives) (record { item = out_item w; state = record { group = afresh_by (fp % 4) mnsc; message = m } }) l
  unfolding out_item afresh_by string
  out true true e = rw e (record { item = refl; holds = record { due = lit≤ tt; gathers = refl; strings = strung; room = room } })
  out true false e = rw e (record { item = refl; holds = record { due = lit≤ tt; gathers = refl; strings = strung; room = room } })
  out false true e = rw e (record { item = refl; holds = record { due = lit≤ tt; gathers = refl; strings = strung; room = room } })
  out false false e = rw e (record { item = refl; holds = record { due = lit≤ tt; gathers = refl; strings = strung; room = room } })

  fourth : (p0 p1 p2 : ℕ)
      → Stepped (record { gives = some (group (sent p0 ++ sent p1 ++ sent p2 ++ sent mnsc)); goes = sofar [] }) (string o (group (sent p0 ++ sent p1 ++ sent p2 ++ sent mnsc)))
      (whole_by m (sent p0 ++ sent p1 ++ sent p2 ++ sent mnsc)) (buffer_by (kind_of (sent p0 ++ sent p1 ++ sent p2 ++ sent mnsc)) m (sent p0 ++ sent p1 ++ sent p2 ++ sent mnsc) l)
  unfolding string whole_by
  fourth p0 p1 p2 =
      let k = whole (p0 / 256) (p0 % 256) (p1 / 256) (p1 % 256) (p2 / 256) (p2 % 256) (mnsc / 256) (mnsc % 256) m l room (kind_of (sent p0 ++ sent p1 ++ sent p2 ++ sent mnsc)) o (mod-lt p1 (lit< tt)) strung in
      record { item = k.gives; holds = record { due = lit≤ tt; gathers = refl; strings = k.goes; room = k.room } }

  stepped : (d : ℕ) (w : Bool) (p0 p1 p2 : ℕ) → d ≤ 3 → (b : Bool) → eqb (fp % 4) d ≡ b
      → Stepped (gather (gathering_of (record { due = d; waiting = w; p0 = p0; p1 = p1; p2 = p2 })) f) (fed_on o (gather (gathering_of (record { due = d; waiting = w; p0 = p0; p1 = p1; p2 = p2 })) f).gives)
      (step_by (record { group = record { due = d; waiting = w; p0 = p0; p1 = p1; p2 = p2 }; message = m }) fp mnsc)
      (step_buffer (record { group = record { due = d; waiting = w; p0 = p0; p1 = p1; p2 = p2 }; message = m }) fp mnsc l)
  unfolding gather step_by step_buffer join_by
  stepped zero w p0 p1 p2 h true e = rw e (record { item = refl; holds = record { due = lit≤ tt; gathers = refl; strings = strung; room = room } })
  stepped zero w p0 p1 p2 h false e = rw e (rw e at (out w false e))
  stepped (suc zero) w p0 p1 p2 h true e = rw e (record { item = refl; holds = record { due = lit≤ tt; gathers = refl; strings = strung; room = room } })
  stepped (suc zero) w p0 p1 p2 h false e = rw e (out w (eqb (fp % 4) 0) refl)
  stepped (suc (suc zero)) w p0 p1 p2 h true e = rw e (record { item = refl; holds = record { due = lit≤ tt; gathers = refl; strings = strung; room = room } })
  stepped (suc (suc zero)) w p0 p1 p2 h false e = rw e (out w (eqb (fp % 4) 0) refl)
  stepped (suc (suc (suc zero))) w p0 p1 p2 h true e = rw e (fourth p0 p1 p2)
  stepped (suc (suc (suc zero))) w p0 p1 p2 h false e = rw e (out w (eqb (fp % 4) 0) refl)
  stepped (suc (suc (suc (suc d)))) w p0 p1 p2 h b e = absurd (omega arith)

keeps : (s : State) (l : List ℕ) (g : Gathering) (o : Strung) (f : Frame) → Holds g o s l
    → Stepped (gather g f) (fed_on o (gather g f).gives) (step_by s f.fp f.mnsc) (step_buffer s f.fp f.mnsc l)
keeps s l g o f h =
    rw h.gathers
    (stepped f.fp f.mnsc s.message l o h.strings h.room s.group.due s.group.waiting s.group.p0 s.group.p1 s.group.p2 h.due
    (eqb (f.fp % 4) s.group.due) refl)

-- what the definitions have after one frame more
module _ (seen : List Frame) (f : Frame) where
  abbrev g : Took Gathering Gathered
  g = gather (gathering seen) f

  strung_on : (gs : List Gathered) (x : Option Gathered) → rest string shut (gs ++ giving x []) ≡ (fed_on (rest string shut gs) x).goes
  strung_on gs none = ap (rest string shut) (append-nil gs)
  strung_on gs (some x) = rest_snoc string shut gs x

  told_on : (gs : List Gathered) (x : Option Gathered) → run string shut (gs ++ giving x []) ≡ run string shut gs ++ giving (fed_on (rest string shut gs) x).gives []
  told_on gs none = ap (run string shut) (append-nil gs) ∙ sym (append-nil (run string shut gs))
  told_on gs (some x) = run_snoc string shut gs x

  gathering_more : gathering (with_more seen f) ≡ g.goes
  gathering_more = rest_snoc gather (sofar []) seen f

  stringing_more : stringing (with_more seen f) ≡ (fed_on (stringing seen) g.gives).goes
  stringing_more = ap (rest string shut) (run_snoc gather (sofar []) seen f) ∙ strung_on (groups seen) g.gives

  items_more : items (with_more seen f) ≡ items seen ++ giving (fed_on (stringing seen) g.gives).gives []
  items_more = ap (run string shut) (run_snoc gather (sofar []) seen f) ∙ told_on (groups seen) g.gives

  follows : (s : State) (l : List ℕ) (r : Step) (after : List ℕ) → Holds (gathering seen) (stringing seen) s l
      → r ≡ step_by s f.fp f.mnsc → after ≡ step_buffer s f.fp f.mnsc l → Follows seen f r after
  follows s l r after h p q =
      let k = keeps s l (gathering seen) (stringing seen) f h in
      rw (p, q)
      (record {
        item = items_more ∙ ap (λ (x : Option Handed). items seen ++ giving x []) (sym k.item);
        holds = rw (gathering_more, stringing_more) k.holds;
      })

-- ---- the step
module _ (s : State) (fp mnsc : ℕ) (l : List ℕ) where
  pub refuses : length l < 1538 → Steps s fp mnsc l (record { item = Refused Length; state = s }) l
  refuses h =
      let t = lt-ltb (length l) 1538 h in
      record { item = rw t; state = rw t; buffer = rw t; follows = λ seen k. absurd (omega (arith, k.room)) }

  pub steps_on : (r : Step) (after : List ℕ) → 1538 ≤ length l → Stepping s fp mnsc l r after → Steps s fp mnsc l r after
  steps_on r after h k =
      let t = le-ltb (length l) 1538 h in
      record {
        item = ap (λ (q : Step). item_values q.item) k.step ∙ rw t;
        state = ap (λ (q : Step). q.state) k.step ∙ rw t;
        buffer = k.buffer ∙ rw t;
        follows = λ seen q. follows seen (record { fp = fp; mnsc = mnsc }) s l r after q k.step k.buffer;
      }

pub begins : (r : State) → r ≡ beginning → Begins r
unfolding run rest Strings
begins r e = record { state = e; holds = λ l h. rw e (record { due = lit≤ tt; gathers = refl; strings = refl; room = h }) }

-- ---- calls of the step
-- THE STATE AND THE ITEMS: calls from a state that holds what was seen hand on exactly the items that the definitions have more, and the state goes on holding
pub calls_follow : (seen : List Frame) (s : State) (l : List ℕ) (fs : List Frame) (xs : List Handed) → Holds (gathering seen) (stringing seen) s l → Calls s l fs xs
    → items (seen ++ fs) ≡ items seen ++ xs
calls_follow seen s l [] [] h Calls.over = ap items (append-nil seen) ∙ sym (append-nil (items seen))
calls_follow seen s l [] (_ ∷ _) h c = elim c [ ]
calls_follow seen s l (f ∷ fs) _ h (Calls.call {after = after} {r} {xs = xs} t c) =
    let k = t.follows seen h in
    ap items (sym (append_assoc seen (f ∷ []) fs))
    ∙ calls_follow (with_more seen f) r.state after fs xs k.holds c
    ∙ ap (λ (x : List Handed). x ++ xs) k.item
    ∙ append_assoc (items seen) (giving (shown after r.item) []) xs
    ∙ ap (λ (x : List Handed). items seen ++ x) (sym (giving_then (shown after r.item) xs))

-- from the beginning: the items of the whole list
pub calls_are_items : (s : State) (l : List ℕ) (fs : List Frame) (xs : List Handed) → Begins s → 1538 ≤ length l → Calls s l fs xs → items fs ≡ xs
unfolding run
calls_are_items s l fs xs b h c = calls_follow [] s l fs xs (b.holds l h) c
