-- Nothing in this file need be believed: clauses between private functions.
-- Assumes nothing.
use Rattle.std.specs.Prelude.{false, List, [], ◌≡◌, ℕ, ◌+◌, ◌-◌, ◌*◌, ◌/◌, ◌%◌, ◌<◌, ◌≤◌, eqb, ltb, length, get_or}
use Rattle.octets.specs.Choice.{pick}
use Rattle.array.specs.Listed.{list}
use Rattle.array.specs.CodingArray.{Wide, carried, Parts, taken, at, index_at}
use Rattle.array.specs.OutputArray.{output_at}
use Rattle.array.proofs.Filling.{Filled}

-- a cell of the information's columns that is free for an information byte
pub record Free (w i j : ℕ) : Type 0 where
  pub wide : Wide w
  pub row : i < 24
  pub column : j < w
  pub free : taken i j ≡ false

-- the parts that the coding array holds
abbrev pub in_array : List ℕ → List ℕ → List ℕ → List ℕ → Parts
in_array b m s r =
    record { information = b; management = m; supervision = s; synchronising = []; signalling = []; check = r }

-- they have the variant's lengths; of check bytes there may be more
pub record Held (w : ℕ) (p : Parts) : Type 0 where
  pub wide : Wide w
  pub most : (211 < w) × (w ≤ 235)
  pub management : length p.management ≡ 24
  pub supervision : length p.supervision ≡ 24
  pub check : 24 * (240 - w) ≤ length p.check

-- what stands in the information's columns of a first or second row of a superblock, with management or supervision m, and of another row
unfoldable pub upper_row_at : ℕ → List ℕ → List ℕ → ℕ → ℕ → ℕ
upper_row_at w b m i j = pick (eqb (j % 30) 0) (get_or m (i / 8 * 8 + j / 30) 0) (get_or b (index_at w i j) 0xFF)

unfoldable pub lower_row_at : ℕ → List ℕ → ℕ → ℕ → ℕ
lower_row_at w b i j = get_or b (index_at w i j) 0xFF

pub record Upper (w i : ℕ) (m : List ℕ) : Type 0 where
  pub wide : Wide w
  pub most : (211 < w) × (w ≤ 235)
  pub within_array : i < 24
  pub upper : i % 8 < 2
  pub beside : length m ≡ 24

-- block k comes next, with n information bytes
pub record Block (w i k n : ℕ) (b m row : List ℕ) : Type 0 where
  pub upper : Upper w i m
  pub block : k < 8
  pub some : 0 < n
  pub most : n ≤ 29
  pub within : 30 * k + 1 + n ≤ w
  pub so_far : Filled (upper_row_at w b m i) 0 240 row (30 * k)

pub record Lower (w i : ℕ) : Type 0 where
  pub wide : Wide w
  pub most : (211 < w) × (w ≤ 235)
  pub within_array : i < 24
  pub lower : 2 ≤ i % 8

pub record Columns (w i : ℕ) (m s : List ℕ) : Type 0 where
  pub wide : Wide w
  pub most : (211 < w) × (w ≤ 235)
  pub within_array : i < 24
  pub management : length m ≡ 24
  pub supervision : length s ≡ 24

-- byte p of the interleaving array, and the array
abbrev pub interleaved_at : List (List ℕ) → ℕ → ℕ
interleaved_at c p = at c (p / 1920 * 8 + p % 8) (p % 1920 / 8)

unfoldable pub interleaving_by : List (List ℕ) → List ℕ
interleaving_by c = list (interleaved_at c) 5760

-- a line more of any output array that has these bytes there
abbrev pub PutsLine : List ℕ → ℕ → List ℕ → List ℕ → List ℕ → Type 0
PutsLine x line first before after =
    (f : ℕ → ℕ) → Filled f 0 6144 before (16 * line) → get_or first 0 0 ≡ f (16 * line) → ((m : ℕ) → m < 15 → get_or x (15 * line + m) 0 ≡ f (16 * line + 1 + m))
    → Filled f 0 6144 after (16 * line + 16)

-- the parts that only the output array holds, and the output array of a coding array
abbrev pub beside : List ℕ → List ℕ → Parts
beside g h =
    record { information = []; management = []; supervision = []; synchronising = g; signalling = h; check = [] }

unfoldable pub output_by : Parts → List (List ℕ) → List ℕ
output_by p c = list (output_at p c) 6144

-- 1 for lengths that are refused, then 23 for more information than the variant carries
abbrev pub refusal_for : ℕ → ℕ → ℕ → ℕ
refusal_for information lengths w = pick (eqb lengths 0) (pick (ltb (carried w) information) 23 0) 1
