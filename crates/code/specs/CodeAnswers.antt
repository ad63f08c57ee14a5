-- T-05: what is answered about check bytes and rows. A part of the wrong length is refused with 1.
-- Assumes nothing.
use Rattle.std.specs.Prelude.{Bool, List, Result, ◌≡◌, ℕ, eqb, length, IfOk}
use Rattle.octets.specs.Choice.{pick}
use Rattle.refusals.specs.declared.Refusal.{Refusal}
use Rattle.refusals.specs.Refusals.{outcome_number}
use Rattle.code.specs.Code.{is_clean, check_bytes}

-- five check bytes for 235 bytes, or fourteen for 226
unfoldable pub check_refusal : ℕ → ℕ → ℕ
check_refusal information check =
    pick (eqb check 5) (pick (eqb information 235) 0 1)
    (pick (eqb check 14) (pick (eqb information 226) 0 1) 1)

-- the number, and what is lent for the check bytes: those of the information, or as it was
pub record Checks (info before after : List ℕ) (n : ℕ) : Type 0 where
  pub number : n ≡ check_refusal (length info) (length before)
  pub bytes : after ≡ pick (eqb n 0) (check_bytes (length before) info) before

-- 240 bytes, and the number of check bytes of a variant
unfoldable pub row_refusal : ℕ → ℕ → ℕ
row_refusal row check = pick (eqb row 240) (pick (eqb check 5) 0 (pick (eqb check 14) 0 1)) 1

-- the number, and, of a row that is not refused, whether it is clean
pub record Tests (row : List ℕ) (check : ℕ) (t : Result Bool Refusal) : Type 0 where
  pub number : outcome_number t ≡ row_refusal (length row) check
  pub told : IfOk t (λ clean. clean ≡ is_clean check row)
