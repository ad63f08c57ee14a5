-- `profile::some_unequal` meets its contract.
-- Assumes nothing.
use Rattle.profile.proofs.Tables.{equal_more}
use Rattle.profile.proofs.some_unequal.Goals as goal

pub loop-low-preserved : goal.loop-low-preserved
loop-low-preserved c = λ e. equal_more c.args.lows.now _ _ c.loop-low.invariant e
