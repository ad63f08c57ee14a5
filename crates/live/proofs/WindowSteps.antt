-- The walk's step over a window: where it is done, and where it gives an item.
-- Assumes nothing.
use Prim.Native.Nat.{ℕ, suc, ◌+◌, ◌-◌, ◌≤◌, ◌<◌}
use mathlib.Core.Bool.{true, false}
use mathlib.Core.List.{List}
use mathlib.Core.Logic.{inl, inr}
use mathlib.Core.Path.{◌≡◌, refl, sym, ap, ◌∙◌}
use native.Mathlib.Omega.{arith}
use lib.Dec.{lit<}
use lib.ListN.{length}
use Rattle.walk.specs.declared.Item.{Item}
use Rattle.walk.specs.declared.Item.TheVariants.{Frame, Lost, Idle, Done}
use Rattle.walk.specs.declared.State.{State}
use Rattle.walk.specs.declared.Step.{Step}
use Rattle.walk.specs.Walk.{Judged, Stepped, item_at, locked, hunting}
use Rattle.walk.specs.Records.{judged, allowed, within, step_with, step_at}
use Rattle.walk.specs.Truth.{Over}
use Rattle.walk.proofs.ByRules.{by_item}
use Rattle.walk.proofs.Limits.{step_is}
use Rattle.walk.proofs.Onward.{Passed, passed_step, short_clear, lock_item}
use Rattle.walk.proofs.Truth.{done_there}
use Rattle.live.specs.Live.{is_done}

-- done is told where the walk can go no further
pub over_is_done : (w : List ℕ) (s : State) → Over w s → is_done (step_at w s).item ≡ true
unfolding is_done step_with
over_is_done w s h = ap (λ (r : Step). is_done r.item) (done_there w s h)

-- HUNTING
module _ (m : ℕ) (w : List ℕ) (ok : allowed m ≡ true) (k : ℕ) where
  pub hunt_past : {a b : ℕ} → Passed m w a b → step_at w (within m (hunting a k)) ≡ step_at w (within m (hunting b k))
  hunt_past {a} {b} P =
      step_is w m ok (hunting a k) ∙ ap (λ (r : Stepped). step_with w r.item (within m r.walk)) (passed_step m w k P) ∙ sym (step_is w m ok (hunting b k))

  pub hunt_short : (q : ℕ) → length w < q + 12288 → is_done (step_at w (within m (hunting q k))).item ≡ true
  hunt_short q h =
      let e = q + (suc (length w) - (q + 6144)) in
      let P : Passed m w q e = record { ahead = omega arith; room = λ p x y. omega arith; clear = λ p x y. short_clear m w p (omega arith) } in
      ap (λ (r : Step). is_done r.item) (hunt_past P) ∙ over_is_done w (within m (hunting e k)) (inr (inl (omega arith)))

-- IN LOCK: a period gives its item
item_is : (R : Judged) (p : ℕ) → is_done (item_at R p) ≡ false
unfolding is_done
item_is R p = by_item R p (λ x b. is_done x ≡ false) (λ e. refl) (λ e. refl) (λ e d. refl)

pub lock_gives : (w : List ℕ) (m : ℕ) → allowed m ≡ true → (p k : ℕ) → p + 6144 ≤ length w → k < m → is_done (step_at w (within m (locked p k))).item ≡ false
unfolding judged step_with
lock_gives w m ok p k room few = ap (λ (r : Step). is_done r.item) (step_is w m ok (locked p k)) ∙ ap is_done (lock_item (judged m w) (lit< tt) p k room few) ∙ item_is (judged m w) p

-- an item that is not done
pub not-done : (x : Item) → ((p : ℕ) → x ≡ Done p → ⊥) → false ≡ is_done x
unfolding is_done
not-done (Frame p h) f = refl
not-done (Lost p n) f = refl
not-done (Idle p) f = refl
not-done (Done p) f = absurd (f p refl)

-- an item that is done
pub is_done_lem : (x : Item) → is_done x ≡ true → (p : ℕ) × (x ≡ Done p)
unfolding is_done
is_done_lem (Done p) e = (p, refl)
is_done_lem (Frame p h) e = let y : ◌≡◌ {A = ℕ} 0 1 = cc in absurd (omega arith)
is_done_lem (Lost p n) e = let y : ◌≡◌ {A = ℕ} 0 1 = cc in absurd (omega arith)
is_done_lem (Idle p) e = let y : ◌≡◌ {A = ℕ} 0 1 = cc in absurd (omega arith)
