-- How a step goes on: the places that a hunt passes, a period in lock gives its item, an item moves the place on, and no step leaves the record.
-- Assumes nothing.
use Prim.Native.Nat.{ℕ, zero, suc, ◌+◌, ◌-◌, ◌≤◌, ◌<◌}
use mathlib.Core.Bool.{Bool, true, false}
use mathlib.Core.List.{List}
use mathlib.Core.Option.{Option, none, some}
use mathlib.Core.Path.{◌≡◌, refl, sym, ap, ◌∙◌}
use native.Mathlib.Omega.{arith}
use lib.Dec.{lit<, ltb}
use lib.ListN.{length}
use borrow.Author.Tests.{ltb-true, ltb-false}
use Rattle.walk.specs.declared.State.{State}
use Rattle.walk.specs.Walk.{Judged, Position, Item, Frame, Lost, Idle, Done, Stepped, confirmed, live, item_at, keeps, look, locked, hunting, step_by, step_of}
use Rattle.walk.specs.ItemValues.{place_of}
use Rattle.walk.specs.Records.{judged, NoneStands, step_with, step_at}
use Rattle.walk.specs.Truth.{ItemTrue}
use Rattle.walk.proofs.ByRules.{by_rules, further}
use Rattle.walk.proofs.Laws.{step_kept, step_missed, step_last, step_passed}
use Rattle.walk.proofs.Limits.{by_limit, step_is, step_outside}
use Rattle.walk.proofs.Looks.{step_live}
use Rattle.walk.proofs.Misses.{step_keeps, place_within}
use Rattle.walk.proofs.Stepping.{unconfirmed, no_second}
use Rattle.walk.proofs.Truth.{step_true}

-- HUNTING: the places passed, from a to b: each has a period, and none is confirmed
pub record Passed (m : ℕ) (bytes : List ℕ) (a b : ℕ) : Type 0 where
  pub ahead : a ≤ b
  pub room : (p : ℕ) → a ≤ p → p < b → p + 6144 ≤ length bytes
  pub clear : (p : ℕ) → a ≤ p → p < b → confirmed (judged m bytes) p ≡ false

module _ (m : ℕ) (bytes : List ℕ) where
  pub none_standing : {a b : ℕ} → NoneStands bytes a b → Passed m bytes a b
  none_standing n = record { ahead = n.ahead; room = n.room; clear = λ p x y. sym (unconfirmed m bytes p _ refl (n.refused p x y)) }

  passed_in : (n a b k : ℕ) → b ≡ a + n → Passed m bytes a b → step_of (judged m bytes) (hunting a k) ≡ step_of (judged m bytes) (hunting b k)
  unfolding judged
  passed_in zero a b k e P = ap (λ (p : ℕ). step_of (judged m bytes) (hunting p k)) (let q : a ≡ b = omega arith in q)
  passed_in (suc n) a b k e P =
      step_passed (judged m bytes) (lit< tt) a k (P.room a (omega arith) (omega arith)) (P.clear a (omega arith) (omega arith))
      ∙ passed_in n (a + 1) b k (omega arith) (record { ahead = omega arith; room = λ p x y. P.room p (omega arith) y; clear = λ p x y. P.clear p (omega arith) y })

  pub passed_step : {a b : ℕ} (k : ℕ) → Passed m bytes a b → step_of (judged m bytes) (hunting a k) ≡ step_of (judged m bytes) (hunting b k)
  passed_step {a} {b} k P = passed_in (b - a) a b k (omega (arith, P.ahead)) P

  -- a place is confirmed only where two periods are there
  pub short_clear : (p : ℕ) → length bytes < p + 12288 → confirmed (judged m bytes) p ≡ false
  short_clear p h = sym (no_second m bytes p (omega arith))

-- IN LOCK: a period gives its item
pub lock_item : (R : Judged) → 0 < R.period → (p k : ℕ) → p + R.period ≤ R.len → k < R.limit → (step_of R (locked p k)).item ≡ item_at R p
lock_item R positive p k room few = go (keeps R p) refl (ltb (k + 1) R.limit) refl
  where
    go : (b : Bool) → keeps R p ≡ b → (l : Bool) → ltb (k + 1) R.limit ≡ l → (step_of R (locked p k)).item ≡ item_at R p
    go true e l f = ap (λ (r : Stepped). r.item) (step_kept R positive p k room few e)
    go false e true f = ap (λ (r : Stepped). r.item) (step_missed R positive p k room (ltb-true _ _ f) e)
    go false e false f = let g = ltb-false (k + 1) R.limit f in ap (λ (r : Stepped). r.item) (step_last R positive p k room (omega arith) e)

module _ (R : Judged) (positive : 0 < R.period) where
  -- A STEP THAT LOOKS AT A PLACE goes further
  pub step_further : (s : Position) → live R s ≡ true → s.place < (step_of R s).walk.place
  unfolding step_by
  step_further s e = rw (step_live R positive s e) (go (look R s).gives)
    where
      t : Position
      t = (look R s).goes

      go : (g : Option Item) → s.place < (step_by g t (step_of R t)).walk.place
      go none = omega (arith, further R positive s, step_keeps R positive (λ u. t.place ≤ u.place) (λ u v h. omega (arith, further R positive u)) t (omega arith))
      go (some x) = further R positive s

  -- in lock the misses stay below the limit
  abbrev pub Below : Position → Type 0
  Below s = s.lock ≡ true → s.misses < R.limit

  pub misses_below : 0 < R.limit → (s : Position) → Below s → Below (step_of R s).walk
  misses_below h =
      step_keeps R positive Below
      (by_rules R (λ s l. live R s ≡ true → Below s → Below l.goes)
      (λ p k e v f z. h) (λ p k e b v f z. b) (λ p k e v f z. let y : ◌≡◌ {A = ℕ} 0 1 = cc in absurd (omega arith)) (λ p k e v f z. h) (λ p k v f z. let y : ◌≡◌ {A = ℕ} 0 1 = cc in absurd (omega arith)))

-- NO STEP LEAVES THE RECORD
module _ (bytes : List ℕ) (s : State) (inside : s.position.place ≤ length bytes) where
  pub walk_in : (step_at bytes s).walk.position.place ≤ length bytes
  unfolding judged step_with
  walk_in =
      by_limit s.limit _
      (λ e. rw (step_is bytes s.limit e s.position) (place_within (judged s.limit bytes) (lit< tt) (length bytes) (omega arith) s.position inside))
      (λ e. rw (step_outside bytes s e) inside)

  pub item_in : place_of (step_at bytes s).item ≤ length bytes
  item_in = go (step_at bytes s).item (step_at bytes s).walk (step_true bytes s) walk_in
    where
      go : (x : Item) (t : State) → ItemTrue bytes s x t → t.position.place ≤ length bytes → place_of x ≤ length bytes
      go (Frame p e) t T l = omega (arith, T.fits)
      go (Lost p n) t T l = omega (arith, T.fits)
      go (Idle p) t T l = omega (arith, T.fits)
      go (Done p) t T l = omega (arith, T.place)
