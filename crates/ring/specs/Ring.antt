-- A ring of bytes that stands for a register. Nothing here need be believed: the public contracts are in the words of Sum.
-- Assumes nothing.
use Rattle.std.specs.Prelude.{◌≡◌, List, ◌++◌, ℕ, ◌+◌, ◌%◌, ◌≤◌, length, take, drop}
use Rattle.linear.proofs.Linear.{xors}
use Rattle.sum.specs.Sum.{Register, after}
use Rattle.stretch.specs.Stretch.{blank}

-- what bytes that are fed back owe to those behind them: each is added to the one so many places on as they are, and to those m and n fewer
unfoldable pub tapped : ℕ → ℕ → List ℕ → List ℕ
tapped m n w = xors w (xors (drop m w) (drop n w))

-- of the last 256 bytes each is added to those 256, 176 and 64 places on
unfoldable pub owed : List ℕ → List ℕ
owed w = tapped 80 192 w

-- a ring from the place k on
unfoldable pub turned : List ℕ → ℕ → List ℕ
turned w k = drop k w ++ take k w

-- with s added to the bytes that follow, at least 256, a blank register ends where r does
pub record Same (r : Register) (s : List ℕ) : Type 0 where
  pub law : (xs : List ℕ) → 256 ≤ length xs → after r xs ≡ after blank (xors s xs)

-- after the first k bytes of a round the ring w, turned on by k, stands for the register, if the ring u stood for it before them
pub record Turn (u bytes w : List ℕ) (k : ℕ) : Type 0 where
  pub stands : (r : Register) → Same r (owed u) → Same (after r (take k bytes)) (owed (turned w k))

-- a run of n places from k on, and where the two other bytes of the first stand, with no end of the ring between
pub record Run (k n x y : ℕ) : Type 0 where
  pub last : k + n ≤ 256
  pub tap : x ≡ (k + 80) % 256
  pub tap_end : x + n ≤ 256
  pub other : y ≡ (k + 192) % 256
  pub other_end : y + n ≤ 256
