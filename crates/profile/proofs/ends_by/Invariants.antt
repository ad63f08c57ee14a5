-- `profile::ends_by` meets its contract.
-- Assumes nothing.
use Rattle.profile.proofs.Tables.{Filled, ending}
use Rattle.profile.proofs.ends_by.Given as goal

abbrev pub invariant-loop-i : goal.invariant-loop-i
invariant-loop-i g l = Filled (ending g.size l.highs l.lows) l.ends l.i
