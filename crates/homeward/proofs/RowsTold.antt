-- The answer about clean rows.
-- Assumes nothing.
use mathlib.Core.Path.{◌≡◌, refl, ap, ◌∙◌}
use mathlib.Core.Bool.{Bool, true, false}
use mathlib.Core.List.{List, []}
use Prim.Native.Nat.{ℕ, ◌-◌, ◌<◌}
use borrow.Author.Tests.{ne_eqb}
use lib.ListN.{length, get_or}
use Rattle.array.specs.CodingArray.{width_of}
use Rattle.array.specs.OutputArray.{place, array_row, array_of}
use Rattle.array.proofs.Filling.{list_length, list_at}
use Rattle.code.specs.CodeAnswers.{row_refusal, Tests}
use Rattle.refusals.specs.declared.Refusal.{Refusal}
use Rattle.refusals.proofs.Numbers.{above_zero}
use Rattle.std.proofs.Common.{Ok, Err}
use Rattle.homeward.specs.RowsClean.{digit, clean_row, clean_rows, rows_refusal, TellsRows}

row_length : (o : List ℕ) (i : ℕ) → length (array_row o i) ≡ 240
unfolding array_row
row_length o i = list_length (λ j. get_or o (place i j) 0) 240

-- row i of the coding array
pub array_row_lem : (o : List ℕ) (xs : List (List ℕ)) (i : ℕ) → xs ≡ array_of o → i < 24 → get_or xs i [] ≡ array_row o i
unfolding array_of
array_row_lem o xs i e h = ap (λ (c : List (List ℕ)). get_or c i []) e ∙ list_at (array_row o) [] 24 i h

-- a row of an array is tested, and told clean where it is
module _ (fourteen : Bool) (o row : List ℕ) (i k : ℕ) (e : row ≡ array_row o i) (q : k ≡ width_of fourteen) where
  allowed : row_refusal (length row) (240 - k) ≡ 0
  unfolding row_refusal
  allowed = rw (e, row_length o i, q) (none fourteen)
    where
      none : (x : Bool) → row_refusal 240 (240 - width_of x) ≡ 0
      none true = refl
      none false = refl

  pub told : (clean : Bool) → Tests row (240 - k) (Ok clean) → digit clean ≡ clean_row (width_of fourteen) o i
  unfolding clean_row
  told clean t = ap digit (t.told ∙ rw (e, q))

  pub never_refused : (r : Refusal) → Tests row (240 - k) (Err r) → ⊥
  never_refused r t = above_zero r (t.number ∙ allowed)

module _ (fourteen : Bool) (o before : List ℕ) where
  pub not-output : (length o ≡ 6144 → ⊥) → TellsRows fourteen o before before 1
  unfolding rows_refusal
  not-output h = record { number = rw (ne_eqb (length o) 6144 h); bytes = refl }

  pub not-room : length o ≡ 6144 → (length before ≡ 24 → ⊥) → TellsRows fourteen o before before 1
  unfolding rows_refusal
  not-room e h = record { number = rw (e, ne_eqb (length before) 24 h); bytes = refl }

  pub rows_told : (after : List ℕ) → length o ≡ 6144 → length before ≡ 24 → after ≡ clean_rows (width_of fourteen) o → TellsRows fourteen o before after 0
  unfolding rows_refusal
  rows_told after e h a = record { number = rw (e, h); bytes = a }
