use Rattle.live.specs.Live.{is_done}
use Rattle.live.proofs.WindowSteps.{not-done}
use Rattle.live.proofs.is_done.Goals as goal

pub returns-in-Done : goal.returns-in-Done
unfolding is_done
returns-in-Done c = rw c.in-Done.is

pub returns-in_default : goal.returns-in_default
returns-in_default c = not-done _ c.in_default.not-Done
