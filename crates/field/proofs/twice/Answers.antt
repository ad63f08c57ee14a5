-- `field::twice` meets its contract.
-- Assumes nothing.
use Rattle.field.proofs.FieldTurns.{twice_small, twice_large}
use borrow.Author.Rules.{rules}
use Rattle.field.proofs.twice.Goals as goal

pub returns-then-a-lt128 : goal.returns-then-a-lt128
returns-then-a-lt128 c = twice_small _ (search rules)

pub returns-else-a-lt128 : goal.returns-else-a-lt128
returns-else-a-lt128 c = twice_large _ (search rules) (search rules)
