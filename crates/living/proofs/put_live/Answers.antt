use Rattle.block.specs.WalkBytes.{step_bytes}
use Rattle.living.specs.LiveBytes.{live_bytes}
use Rattle.living.proofs.put_live.Goals as goal

pub returns-in-Got : goal.returns-in-Got
unfolding live_bytes step_bytes
returns-in-Got c = rw c.in-Got.is c.put_item.ensures

pub returns-in-More : goal.returns-in-More
unfolding live_bytes
returns-in-More c = rw c.in-More.is c.put_told.ensures
