-- Nothing in this file need be believed: clauses between private functions.
-- Assumes nothing.
use Rattle.std.specs.Prelude.{List, ◌≡◌, ℕ, ◌+◌, ◌-◌, ◌*◌, ◌/◌, ◌%◌, ◌<◌, ◌≤◌, length, get_or}
use Rattle.array.specs.Listed.{list}
use Rattle.array.specs.CodingArray.{Wide, carried, index_at, row_of, column_of}
use Rattle.array.specs.OutputArray.{interleaved, sent}
use Rattle.array.proofs.Filling.{Filled}

-- n bytes that stand a step apart
unfoldable pub stepped : List ℕ → ℕ → ℕ → ℕ → List ℕ
stepped x first step n = list (λ m. get_or x (first + step * m) 0) n

-- they are there, and there is room for them
pub record Reaches (x out : List ℕ) (first step n at : ℕ) : Type 0 where
  pub there : (m : ℕ) → m < n → first + step * m < length x
  pub room : at + n ≤ length out

-- the interleaving array I of an output array, and what it holds of row i, column j
unfoldable pub interleaving_of : List ℕ → List ℕ
interleaving_of o = list (λ p. get_or o (sent p) 0) 5760

abbrev pub cell : List ℕ → ℕ → ℕ → ℕ
cell x i j = get_or x (interleaved i j) 0

-- the parts, from the interleaving array
abbrev pub byte_of : ℕ → List ℕ → ℕ → ℕ
byte_of w x n = cell x (row_of w n) (column_of w n)

abbrev pub block_of : ℕ → List ℕ → ℕ → ℕ
block_of first x n = cell x (n / 8 * 8 + first) (n % 8 * 30)

abbrev pub check_byte_of : ℕ → List ℕ → ℕ → ℕ
check_byte_of w x n = cell x (n / (240 - w)) (w + n % (240 - w))

-- the first n information bytes are out
abbrev pub Out : ℕ → List ℕ → List ℕ → ℕ → Type 0
Out w x out n = Filled (byte_of w x) 0 (carried w) out n

-- an upper row of a superblock comes next
pub record NextRow (w i at : ℕ) (x out : List ℕ) : Type 0 where
  pub wide : Wide w
  pub row : i < 24
  pub upper : i % 8 < 2
  pub next : at ≡ index_at w i 1
  pub so_far : Out w x out at

-- there is room for the parts that the coding array holds
pub record Room (w : ℕ) (b m s r : List ℕ) : Type 0 where
  pub wide : Wide w
  pub within : w < 240
  pub information : length b ≡ carried w
  pub management : length m ≡ 24
  pub supervision : length s ≡ 24
  pub check : length r ≡ 24 * (240 - w)

-- they are the array's
pub record HandsOut (w : ℕ) (x b m s r : List ℕ) : Type 0 where
  pub information : b ≡ list (byte_of w x) (carried w)
  pub management : m ≡ list (block_of 0 x) 24
  pub supervision : s ≡ list (block_of 1 x) 24
  pub check : r ≡ list (check_byte_of w x) (24 * (240 - w))
