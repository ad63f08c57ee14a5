use Rattle.periods.proofs.Passing.{part_is}
use Rattle.walk.proofs.read_at.Goals as goal

pub returns : goal.returns
returns c = rw (← part_is c.args.bytes.now c.args.p) c.read.ensures
