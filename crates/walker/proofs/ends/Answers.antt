-- `walker::ends` meets its contract.
-- Assumes nothing.
use borrow.Author.Rules.{rules}
use Rattle.walker.specs.NthClauses.{ends_at}
use Rattle.walker.proofs.Turns.{ends_not_done}
use Rattle.walker.proofs.ends.Goals as goal

pub returns-in-Done : goal.returns-in-Done
unfolding ends_at
returns-in-Done c = search rules

pub returns-in_default : goal.returns-in_default
returns-in_default c = ends_not_done _ _ c.in_default.not-Done
