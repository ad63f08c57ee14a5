use Rattle.frame.specs.Writing.{fl_in}
use Rattle.writing.proofs.fl.Goals as goal

pub returns : goal.returns
unfolding fl_in
returns c = rw (c.ficl.ensures.0, c.bit.ensures, c.look_over-seen.ensures.2)
