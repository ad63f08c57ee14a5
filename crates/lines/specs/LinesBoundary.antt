-- The leased lines on byte slices, for C. The variant is its number of information bytes, 5592 or 5376; another is refused with 12, before any length.
-- Assumes nothing.
use Rattle.std.specs.Prelude.{Bool, not, List, [], ◌∷◌, Result, ◌≡◌, ℕ, eqb, length, IfOk}
pub use Rattle.sum.specs.Sum.{digit}
use Rattle.octets.specs.Choice.{pick}
use Rattle.refusals.specs.declared.Refusal.{Refusal}
use Rattle.refusals.specs.Refusals.{outcome_number}
use Rattle.array.specs.CodingArray.{width_of, Parts}
use Rattle.array.specs.OutputArray.{output_of, parts_of}
use Rattle.homeward.specs.WayBack.{back_refusal}
use Rattle.homeward.specs.RowsClean.{clean_rows, rows_refusal}
use Rattle.line.specs.NetworkOut.{with_frame, frame_refusal}
use Rattle.remade.specs.Remaking.{frame_made, making_refusal}
use Rattle.code.specs.Code.{is_clean}
use Rattle.code.specs.CodeAnswers.{row_refusal}

unfoldable pub variant_refusal : ℕ → ℕ
variant_refusal variant = pick (eqb variant 5592) 0 (pick (eqb variant 5376) 0 12)

-- whether a row of the variant has fourteen check bytes, where it is one
pub record Fourteen (variant : ℕ) (r : Result Bool Refusal) : Type 0 where
  pub number : outcome_number r ≡ variant_refusal variant
  pub told : IfOk r (λ fourteen. fourteen ≡ eqb variant 5376)

-- the variant's width, where it is one
abbrev pub width_by : ℕ → ℕ
width_by variant = width_of (eqb variant 5376)

pub record LineOut (variant : ℕ) (f : List ℕ) (p : Parts) (before after : List ℕ) (n : ℕ) : Type 0 where
  pub number : n ≡ pick (eqb (variant_refusal variant) 0) (frame_refusal (width_by variant) f p before) 12
  pub bytes : after ≡ pick (eqb n 0) (output_of (width_by variant) (with_frame (width_by variant) f p)) before

pub record LineBack (variant : ℕ) (output : List ℕ) (before after : Parts) (n : ℕ) : Type 0 where
  pub number : n ≡ pick (eqb (variant_refusal variant) 0) (back_refusal (width_by variant) output before) 12
  pub parts : after ≡ pick (eqb n 0) (parts_of (width_by variant) output) before

pub record LineRows (variant : ℕ) (output before after : List ℕ) (n : ℕ) : Type 0 where
  pub number : n ≡ pick (eqb (variant_refusal variant) 0) (rows_refusal (length output) (length before)) 12
  pub bytes : after ≡ pick (eqb n 0) (clean_rows (width_by variant) output) before

-- FSYNC0 for the choice 0, FSYNC1 for any other
abbrev pub is_other : ℕ → Bool
is_other choice = not (eqb choice 0)

pub record LineFrame (variant choice level : ℕ) (information before after : List ℕ) (n : ℕ) : Type 0 where
  pub number : n ≡ pick (eqb (variant_refusal variant) 0) (making_refusal (width_by variant) (is_other choice) level information (length before)) 12
  pub bytes : after ≡ pick (eqb n 0) (frame_made (is_other choice) level information) before

-- the row's test: one byte is lent, 1 for a clean row and 0 for one that is not; 1 where another number of bytes is lent, then the row's refusal
pub record RowTold (row : List ℕ) (check : ℕ) (before after : List ℕ) (n : ℕ) : Type 0 where
  pub number : n ≡ pick (eqb (length before) 1) (row_refusal (length row) check) 1
  pub bytes : after ≡ pick (eqb n 0) (digit (is_clean check row) ∷ []) before
