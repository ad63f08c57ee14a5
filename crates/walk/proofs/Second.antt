-- Demand 3, the second part, over the limit: after a frame handed out, one item for each following period until `limit` in a row are refused or the record ends.
-- Assumes nothing.
use Prim.Native.Nat.{ℕ, zero, suc, ◌+◌, ◌-◌, ◌*◌, ◌≤◌, ◌<◌}
use mathlib.Core.Path.{◌≡◌, refl, ap, ◌∙◌}
use mathlib.Core.Bool.{Bool, true, false}
use mathlib.Core.List.{List, [], ◌∷◌, ◌++◌}
use native.Mathlib.Omega.{arith}
use native.Mathlib.Decide.{dec_le}
use lib.ListN.{length}
use Rattle.walk.specs.Walk.{Judged, Fair, Position, Item, item_at, keeps, items, locked, hunting}
use Rattle.walk.specs.AnyJudging.{periods, Unbroken}
use Rattle.walk.proofs.ByRules.{unfollowed}
use Rattle.walk.proofs.Laws.{items_short, items_passed, items_kept, items_missed, items_last}

-- of the n places from p on, a period apart, one of the first l keeps the lock, if more than l are asked for
Soon : Judged → ℕ → ℕ → ℕ → Type 0
Soon R p l n = l < n → (j : ℕ) × (j < l) × (keeps R (p + j * R.period) ≡ true)

module _ (R : Judged) (fair : Fair R) where
  abbrev Kept : ℕ → ℕ → ℕ → Type 0
  Kept n p k = (t : Position) × (items R (locked p k) ≡ periods R p n ++ items R t) × (R.len < p + n * R.period + R.period → items R t ≡ [])

  abbrev Keeps : ℕ → Type 0
  Keeps n = (p k : ℕ) → k < R.limit → p + n * R.period ≤ R.len → Soon R p (R.limit - k) n → Unbroken R p n → Kept n p k

  shift : (n p : ℕ) → Unbroken R p (suc n) → Unbroken R (p + R.period) n
  unfolding Unbroken
  shift n p u i h = let (j, l, e) = u (suc i) (omega arith) in (j, l, rw (let q : p + R.period + (i + j) * R.period ≡ p + (suc i + j) * R.period = omega arith in q) e)

  soon_first : (n p : ℕ) → Unbroken R p n → Soon R p (R.limit - 0) n
  unfolding Unbroken Soon
  soon_first n p u h = let (j, l, e) = u 0 (omega arith) in (j, omega arith, rw (let q : p + j * R.period ≡ p + (0 + j) * R.period = omega arith in q) e)

  soon_after_frame : (n p : ℕ) → Unbroken R p (suc n) → Soon R (p + R.period) (R.limit - 0) n
  soon_after_frame n p u = soon_first n (p + R.period) (shift n p u)

  soon_after_miss : (n p l : ℕ) → keeps R p ≡ false → Soon R p (suc l) (suc n) → Soon R (p + R.period) l n
  unfolding Soon
  soon_after_miss n p l f s h = go (s (omega arith))
    where
      go : (j : ℕ) × (j < suc l) × (keeps R (p + j * R.period) ≡ true) → (j : ℕ) × (j < l) × (keeps R (p + R.period + j * R.period) ≡ true)
      go t = by t.0 t.1 t.2
        where
          by : (j : ℕ) → j < suc l → keeps R (p + j * R.period) ≡ true → (j : ℕ) × (j < l) × (keeps R (p + R.period + j * R.period) ≡ true)
          by zero b e = let q : p + 0 * R.period ≡ p = omega arith in absurd (let z : ◌≡◌ {A = ℕ} 0 1 = cc in omega arith)
          by (suc j) b e = (j, omega arith, rw (let q : p + R.period + j * R.period ≡ p + suc j * R.period = omega arith in q) e)

  -- hunting where no place is left to confirm another, nothing is handed out
  hunting_short : (f p k : ℕ) → R.len < p + R.period + f → R.len < p + R.period + R.period → items R (hunting p k) ≡ []
  hunting_short zero p k b h = items_short R fair.positive (hunting p k) (omega arith)
  hunting_short (suc f) p k b h = go (dec_le (p + R.period) R.len) (hunting_short f (p + 1) k (omega arith) (omega arith))
    where
      go : Dec (p + R.period ≤ R.len) → items R (hunting (p + 1) k) ≡ [] → items R (hunting p k) ≡ []
      go (yes l) ih = items_passed R fair.positive p k l (unfollowed R p h) ∙ ih
      go (no l) ih = items_short R fair.positive (hunting p k) (omega arith)

  -- one more period
  join : (n p k : ℕ) (l : List Item) → items R (locked p k) ≡ item_at R p ∷ l →
      (t : Position) × (l ≡ periods R (p + R.period) n ++ items R t) × (R.len < p + R.period + n * R.period + R.period → items R t ≡ []) → Kept (suc n) p k
  unfolding periods
  join n p k l e (t, h, z) = (t, rw (e, h), λ b. z (omega arith))

  -- the last miss of `limit` in a row is the last period
  last : (n p k : ℕ) → p + suc n * R.period ≤ R.len → k + 1 ≡ R.limit → keeps R p ≡ false → Soon R (p + R.period) 0 n → Kept (suc n) p k
  unfolding periods Soon
  last zero p k room l e s = join 0 p k _ (items_last R fair.positive p k (omega arith) l e) (hunting (p + 1) (k + 1), refl, λ b. hunting_short R.len (p + 1) (k + 1) (omega arith) (omega arith))
  last (suc n) p k room l e s = let (j, b, t) = s (omega arith) in absurd (omega arith)

  every_suc : (n : ℕ) → Keeps n → Keeps (suc n)
  unfolding periods
  every_suc n ih p k b room s u = go (keeps R p) refl
    where
      miss : keeps R p ≡ false → Dec (k + 1 < R.limit) → Kept (suc n) p k
      miss e (yes l) =
          join n p k _ (items_missed R fair.positive p k (omega arith) l e)
          (ih (p + R.period) (k + 1) l (omega arith) (soon_after_miss n p (R.limit - (k + 1)) e (rw (let q : suc (R.limit - (k + 1)) ≡ R.limit - k = omega arith in q) s)) (shift n p u))
      miss e (no l) = last n p k room (omega arith) e (soon_after_miss n p 0 e (rw (let q : 1 ≡ R.limit - k = omega arith in q) s))

      go : (b : Bool) → keeps R p ≡ b → Kept (suc n) p k
      go true e = join n p k _ (items_kept R fair.positive p k (omega arith) b e) (ih (p + R.period) 0 (omega arith) (omega arith) (soon_after_frame n p u) (shift n p u))
      go false e = miss e (dec_le (suc (k + 1)) R.limit)

  every : (n : ℕ) → Keeps n
  unfolding periods
  every zero = λ p k b room s u. (locked p k, refl, λ z. items_short R fair.positive (locked p k) (omega arith))
  every (suc n) = every_suc n (every n)

  -- DEMAND 3, SECOND PART, over the limit, with no supposition on the record: in lock at p with no misses the walk hands out one item for each of the next n periods,
  -- as far as the record has them and no `limit` in a row before the last of them are refused; and nothing more, where the record has no further period
  pub each_period : (n p : ℕ) → p + n * R.period ≤ R.len → Unbroken R p n →
      (t : Position) × (items R (locked p 0) ≡ periods R p n ++ items R t) × (R.len < p + n * R.period + R.period → items R t ≡ [])
  each_period n p room u = every n p 0 fair.patient room (soon_first n p u) u

  pub length-periods : (n p : ℕ) → length (periods R p n) ≡ n
  unfolding periods
  length-periods zero p = refl
  length-periods (suc n) p = ap suc (length-periods n (p + R.period))
