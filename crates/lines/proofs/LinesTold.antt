-- The answers to C.
-- Assumes nothing.
use mathlib.Core.Path.{◌≡◌, refl, sym, ap, ◌∙◌}
use mathlib.Core.Bool.{Bool}
use mathlib.Core.List.{List, [], ◌∷◌}
use Prim.Native.Nat.{ℕ}
use native.Mathlib.Omega.{arith}
use borrow.Author.Tests.{ne_eqb}
use lib.Dec.{eqb}
use lib.ListN.{length, set}
use Rattle.array.specs.CodingArray.{Parts}
use Rattle.homeward.specs.WayBack.{Returns}
use Rattle.homeward.specs.RowsClean.{TellsRows}
use Rattle.line.specs.NetworkOut.{SendsFrame}
use Rattle.remade.specs.Remaking.{MakesFrame}
use Rattle.code.specs.Code.{is_clean}
use Rattle.code.specs.CodeAnswers.{Tests}
use Rattle.std.proofs.Common.{Ok, Err}
use Rattle.refusals.specs.declared.Refusal.{Refusal}
use Rattle.refusals.specs.Refusals.{refusal_number}
use Rattle.refusals.proofs.Numbers.{above_zero}
use Rattle.lines.specs.LinesBoundary.{digit, variant_refusal, is_other, LineOut, LineBack, LineRows, LineFrame, RowTold}

module _ (variant n : ℕ) (e : n ≡ variant_refusal variant) where
  pub no_out : (n ≡ 0 → ⊥) → (f : List ℕ) (p : Parts) (out : List ℕ) → LineOut variant f p out out 12
  no_out z f p out = record { number = rw (← e, ne_eqb n 0 z); bytes = refl }

  pub out_told : n ≡ 0 → (f : List ℕ) (p : Parts) (before after : List ℕ) (k : ℕ) → SendsFrame (eqb variant 5376) f p before after k → LineOut variant f p before after k
  out_told z f p before after k t = record { number = t.number ∙ rw (← e, z); bytes = t.bytes }

  pub no_back : (n ≡ 0 → ⊥) → (o : List ℕ) (p : Parts) → LineBack variant o p p 12
  no_back z o p = record { number = rw (← e, ne_eqb n 0 z); parts = refl }

  pub back_told : n ≡ 0 → (o : List ℕ) (before after : Parts) (k : ℕ) → Returns (eqb variant 5376) o before after k → LineBack variant o before after k
  back_told z o before after k t = record { number = t.number ∙ rw (← e, z); parts = t.parts }

  pub no_rows : (n ≡ 0 → ⊥) → (o before : List ℕ) → LineRows variant o before before 12
  no_rows z o before = record { number = rw (← e, ne_eqb n 0 z); bytes = refl }

  pub rows_told : n ≡ 0 → (o before after : List ℕ) (k : ℕ) → TellsRows (eqb variant 5376) o before after k → LineRows variant o before after k
  rows_told z o before after k t = record { number = t.number ∙ rw (← e, z); bytes = t.bytes }

  pub no_frame : (n ≡ 0 → ⊥) → (choice level : ℕ) (b before : List ℕ) → LineFrame variant choice level b before before 12
  no_frame z choice level b before = record { number = rw (← e, ne_eqb n 0 z); bytes = refl }

  pub frame_told : n ≡ 0 → (choice level : ℕ) (b before after : List ℕ) (k : ℕ) → MakesFrame (eqb variant 5376) (is_other choice) level b before after k → LineFrame variant choice level b before after k
  frame_told z choice level b before after k t = record { number = t.number ∙ rw (← e, z); bytes = t.bytes }

pub one_byte : (out : List ℕ) (v : ℕ) → length out ≡ 1 → set out 0 v ≡ v ∷ []
one_byte [] v e = absurd (omega arith)
one_byte (x ∷ []) v e = refl
one_byte (x ∷ y ∷ out) v e = absurd (omega arith)

module _ (row : List ℕ) (check : ℕ) (before : List ℕ) where
  pub not-one : (length before ≡ 1 → ⊥) → RowTold row check before before 1
  not-one h = record { number = rw (ne_eqb (length before) 1 h); bytes = refl }

  pub row_refused : (r : Refusal) → length before ≡ 1 → Tests row check (Err r) → RowTold row check before before (refusal_number r)
  row_refused r h k = record { number = k.number ∙ rw h; bytes = rw (ne_eqb (refusal_number r) 0 (above_zero r)) }

  pub row_told : (clean : Bool) (v : ℕ) → length before ≡ 1 → Tests row check (Ok clean) → v ≡ digit clean → RowTold row check before (set before 0 v) 0
  row_told clean v h k a =
      record {
        number = k.number ∙ rw h;
        bytes = one_byte before v h ∙ rw (a, k.told);
      }
