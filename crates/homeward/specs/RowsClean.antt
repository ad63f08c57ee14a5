-- T-05: which rows of an output array are clean.
-- Assumes nothing.
use Rattle.std.specs.Prelude.{Bool, List, ◌≡◌, ℕ, ◌-◌, eqb, length}
pub use Rattle.sum.specs.Sum.{digit}
use Rattle.octets.specs.Choice.{pick}
use Rattle.array.specs.Listed.{list}
use Rattle.array.specs.CodingArray.{width_of}
use Rattle.array.specs.OutputArray.{array_row}
use Rattle.code.specs.Code.{is_clean}

-- 1 for a clean row and 0 for one that is not
unfoldable pub clean_row : ℕ → List ℕ → ℕ → ℕ
clean_row w o i = digit (is_clean (240 - w) (array_row o i))

unfoldable pub clean_rows : ℕ → List ℕ → List ℕ
clean_rows w o = list (clean_row w o) 24

-- 1 for another number of bytes than 6,144 in the output array or 24 for the answer
unfoldable pub rows_refusal : ℕ → ℕ → ℕ
rows_refusal output clean = pick (eqb output 6144) (pick (eqb clean 24) 0 1) 1

-- the number, and what is lent for the answer: a byte for each row, or as it was
pub record TellsRows (fourteen : Bool) (output before after : List ℕ) (n : ℕ) : Type 0 where
  pub number : n ≡ rows_refusal (length output) (length before)
  pub bytes : after ≡ pick (eqb n 0) (clean_rows (width_of fourteen) output) before
