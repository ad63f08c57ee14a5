-- What beginning a walk hands back, by its number and values: they fix it.
-- Assumes nothing.
use Prim.Native.Nat.{ℕ}
use mathlib.Core.Path.{◌≡◌, refl, sym, ap, subst, ◌∙◌}
use mathlib.Core.Bool.{Bool, true, false}
use mathlib.Core.List.{List}
use lib.Dec.{eqb}
use lib.ListN.{get_or}
use Rattle.frame.specs.Answers.{digit}
use Rattle.std.specs.Prelude.{Result, Ok, Err}
use Rattle.refusals.specs.declared.Refusal.{Refusal}
use Rattle.refusals.specs.Refusals.{refusal_number, outcome_number}
use Rattle.refusals.proofs.Numbers.{above_zero, number_fixed}
use Rattle.walk.specs.declared.State.{State}
use Rattle.walk.specs.Records.{allowed, limit_refusal_of, start, walk_values, begun_values, Begins}
use Rattle.walk.proofs.Limits.{number_allowed, allowed_is, just_right, by_limit}

-- a walk of its values
abbrev walk_by : List ℕ → State
walk_by vs = record { limit = get_or vs 0 0; position = record { place = get_or vs 1 0; misses = get_or vs 2 0; lock = eqb (get_or vs 3 0) 1 } }

back : (s : State) → walk_by (walk_values s) ≡ s
back s = ap (λ (b : Bool). record { limit = s.limit; position = record { place = s.position.place; misses = s.position.misses; lock = b } }) (lock s.position.lock)
  where
    lock : (b : Bool) → eqb (digit b) 1 ≡ b
    lock true = refl
    lock false = refl

pub walk_fixed : (s t : State) → walk_values s ≡ walk_values t → s ≡ t
walk_fixed s t e = sym (back s) ∙ ap walk_by e ∙ back t

same : (r q : Result State Refusal) → outcome_number r ≡ outcome_number q → begun_values r ≡ begun_values q → r ≡ q
same (Ok s) (Ok t) n v = ap (λ (x : State). Ok x) (walk_fixed s t v)
same (Ok s) (Err k) n v = absurd (above_zero k (sym n))
same (Err k) (Ok t) n v = absurd (above_zero k n)
same (Err k) (Err l) n v = ap (λ (x : Refusal). Err x) (number_fixed k l n)

-- TWO RESULTS of one limit are equal
pub begun_fixed : (m : ℕ) (r q : Result State Refusal) → Begins m r → Begins m q → r ≡ q
begun_fixed m r q a b = same r q (a.number ∙ sym b.number) (a.values ∙ sym b.values)

-- a walk is begun with an allowed limit and at its beginning, and refused with another limit and its number
module _ (m : ℕ) (r : Result State Refusal) (b : Begins m r) where
  pub is_begun : (s : State) → r ≡ Ok s → (allowed m ≡ true) × (s ≡ start m)
  is_begun s q =
      let c = subst (Begins m) q b in
      let e = number_allowed m (sym c.number) in
      (e, walk_fixed s (start m) (rw e at c.values))

  pub is_refused : (n : Refusal) → r ≡ Err n → (allowed m ≡ false) × (refusal_number n ≡ limit_refusal_of m)
  is_refused n q =
      let c = subst (Begins m) q b in
      by_limit m _
      (λ e. absurd (above_zero n (c.number ∙ sym (just_right m (allowed_is m e)))))
      (λ e. (e, c.number))
