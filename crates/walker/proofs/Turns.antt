-- What a turn of the walk to the n-th step knows: where it ends, and that one step less is left where it does not.
-- Assumes nothing.
use mathlib.Core.Path.{◌≡◌, refl, sym, ap}
use mathlib.Core.Bool.{true, false}
use mathlib.Core.List.{List}
use Prim.Native.Nat.{ℕ, zero, suc, ◌-◌, ◌≤◌}
use native.Mathlib.Omega.{arith}
use lib.Dec.{eqb}
use borrow.Author.Tests.{eqb-true}
use Rattle.octets.proofs.Deciding.{clash}
use Rattle.walk.specs.declared.Item.{Item}
use Rattle.walk.specs.declared.Item.TheVariants.{Frame, Lost, Idle, Done}
use Rattle.walk.specs.declared.State.{State}
use Rattle.walk.specs.Records.{step_at, state_after}
use Rattle.walker.specs.NthClauses.{ends_at}
use Rattle.walker.proofs.Items.{done_on}

-- unless done is said it ends with the last step
pub ends_not_done : (m : ℕ) (x : Item) → ((p : ℕ) → x ≡ Done p → ⊥) → eqb m 0 ≡ ends_at m x
unfolding ends_at
ends_not_done m (Frame p h) f = refl
ends_not_done m (Lost p n) f = refl
ends_not_done m (Idle p) f = refl
ends_not_done m (Done p) f = absurd (f p refl)

-- where it ends, no step is left, or done is said: the step is that of all of them
pub arrived : (bytes : List ℕ) (m : ℕ) (t : State) (x : Item) → (step_at bytes t).item ≡ x → ends_at m x ≡ true → step_at bytes t ≡ step_at bytes (state_after bytes m t)
unfolding state_after ends_at
arrived bytes m t (Frame p h) e z = ap (λ (k : ℕ). step_at bytes (state_after bytes k t)) (sym (eqb-true m 0 z))
arrived bytes m t (Lost p k) e z = ap (λ (k : ℕ). step_at bytes (state_after bytes k t)) (sym (eqb-true m 0 z))
arrived bytes m t (Idle p) e z = ap (λ (k : ℕ). step_at bytes (state_after bytes k t)) (sym (eqb-true m 0 z))
arrived bytes m t (Done p) e z = sym (done_on bytes m t p e)

-- where it does not, one is left, at least
pub some_left : (m : ℕ) (x : Item) → ends_at m x ≡ false → 1 ≤ m
unfolding ends_at
some_left zero (Frame p h) z = clash z
some_left zero (Lost p k) z = clash z
some_left zero (Idle p) z = clash z
some_left zero (Done p) z = clash z
some_left (suc m) x z = omega arith

pub one_on : (bytes : List ℕ) (m : ℕ) (t : State) → 1 ≤ m → state_after bytes m t ≡ state_after bytes (m - 1) (step_at bytes t).walk
unfolding state_after
one_on bytes zero t h = absurd (omega (arith, h))
one_on bytes (suc m) t h = let z : suc m - 1 ≡ m = omega arith in rw z
