-- An item's values fix it, and so what a step hands back.
-- Assumes nothing.
use mathlib.Core.List.{List}
use mathlib.Core.Path.{◌≡◌, refl, sym, ap, ◌∙◌}
use Prim.Native.Nat.{ℕ, ◌≤◌}
use lib.ListN.{length, get_or}
use borrow.Author.Tests.{le-ltb}
use Rattle.refusals.proofs.Numbers.{by_number}
use Rattle.signalling.specs.declared.State.{State}
use Rattle.signalling.specs.declared.Item.{Item}
use Rattle.signalling.specs.declared.Item.TheVariants.{Nothing, Message, Drop, Refused}
use Rattle.signalling.specs.declared.Step.{Step}
use Rattle.signalling.specs.OnNumbers.{item_kind, item_number, item_length, item_values, item_by, step_by}
use Rattle.signalling.specs.Following.{Steps}

pub item_by_lem : (x : Item) → item_by (item_kind x) (item_number x) (item_length x) ≡ x
item_by_lem Nothing = refl
item_by_lem (Message type n) = refl
item_by_lem (Drop r) = ap Drop (by_number r)
item_by_lem (Refused r) = ap Refused (by_number r)

pub item_fixed : (x y : Item) → item_values x ≡ item_values y → x ≡ y
item_fixed x y e = sym (item_by_lem x) ∙ ap (λ (vs : List ℕ). item_by (get_or vs 0 0) (get_or vs 1 0) (get_or vs 2 0)) e ∙ item_by_lem y

module _ (s : State) (fp mnsc : ℕ) (l : List ℕ) where
  -- TWO RESULTS of one call are equal
  pub step_fixed : (r q : Step) (after other : List ℕ) → Steps s fp mnsc l r after → Steps s fp mnsc l q other → (r ≡ q) × (after ≡ other)
  step_fixed r q after other a b =
      let item = item_fixed r.item q.item (a.item ∙ sym b.item) in
      let state = a.state ∙ sym b.state in
      (λ i. record { item = item i; state = state i }, a.buffer ∙ sym b.buffer)

  -- with a buffer that is long enough it is the step on the state's numbers
  pub is_step : (r : Step) (after : List ℕ) → Steps s fp mnsc l r after → 1538 ≤ length l → r ≡ step_by s fp mnsc
  is_step r after a h =
      let t = le-ltb (length l) 1538 h in
      let item = item_fixed r.item (step_by s fp mnsc).item (rw t at a.item) in
      let state : r.state ≡ (step_by s fp mnsc).state = rw t at a.state in
      λ i. record { item = item i; state = state i }
