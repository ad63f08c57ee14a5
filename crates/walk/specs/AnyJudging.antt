-- Nothing in this file need be believed: the words of demand 3 over any judging of places, by which the theorems over the limit go.
-- Assumes nothing.
use Rattle.std.specs.Prelude.{ℕ, zero, suc, ◌+◌, ◌*◌, ◌≤◌, ◌<◌, ◌≡◌, true, not, List, [], ◌∷◌, leb}
use Rattle.octets.specs.Choice.{pick}
use Rattle.walk.specs.Walk.{Judged, Item, frame_at, item_at, keeps}
use Rattle.walk.specs.ItemValues.{place_of}

-- a record that ends with n intact frames, the first of them at a, their sync words taking turns
pub record Ends (R : Judged) (a n : ℕ) : Type 0 where
  pub whole : R.len ≡ a + n * R.period
  pub intact : (i : ℕ) → i < n → R.stands (a + i * R.period) ≡ true
  pub alternating : (i : ℕ) → suc i < n → R.sync (a + suc i * R.period) ≡ not (R.sync (a + i * R.period))
  -- from 6,143 bytes (a period less one) before the first of them onward no other place stands or reads as a null transmission, so none but theirs keeps a lock
  pub alone : (q : ℕ) → a < q + R.period → q + R.period ≤ R.len → keeps R q ≡ true → (i : ℕ) × (i < n) × (q ≡ a + i * R.period)

-- the items of a list at c or later
unfoldable pub since : ℕ → List Item → List Item
since c [] = []
since c (x ∷ xs) = pick (leb c (place_of x)) (x ∷ since c xs) (since c xs)

-- n frames, one after another, the first at p
unfoldable pub frames : Judged → ℕ → ℕ → List Item
frames R p zero = []
frames R p (suc n) = frame_at R p ∷ frames R (p + R.period) n

-- one item for each of n periods from p on
unfoldable pub periods : Judged → ℕ → ℕ → List Item
periods R p zero = []
periods R p (suc n) = item_at R p ∷ periods R (p + R.period) n

-- of the n periods from p on, no `limit` in a row are all missed, but for a run that ends with the last of them
unfoldable pub Unbroken : Judged → ℕ → ℕ → Type 0
Unbroken R p n = (i : ℕ) → i + R.limit < n → (j : ℕ) × (j < R.limit) × (keeps R (p + (i + j) * R.period) ≡ true)
