use mathlib.Core.Logic.{inl, inr}
use Rattle.code.proofs.CodeTurns.{row_kept, row_told}
use Rattle.code.proofs.test_row.Goals as goal

pub returns-in-240-eq5 : goal.returns-in-240-eq5
returns-in-240-eq5 c = row_told _ _ _ c.in-240-eq5.is-0 c.in-240-eq5.is-1 c.is_clean.ensures

pub returns-in_default : goal.returns-in_default
returns-in_default c = row_kept _ _ (λ e. (λ f. c.in_default.is-1.1 (inl f), λ f. c.in_default.is-1.1 (inr f)))

pub returns-in_default-2 : goal.returns-in_default-2
returns-in_default-2 c = row_kept _ _ (λ e. absurd (c.in_default.is-0.1 e))
