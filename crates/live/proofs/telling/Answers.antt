use Rattle.live.specs.Live.{telling, telling_at, later_step, later}
use Rattle.live.proofs.telling.Goals as goal

pub returns : goal.returns
unfolding telling telling_at later_step later
returns c = rw (c.later_item.ensures, c.placed.ensures)
