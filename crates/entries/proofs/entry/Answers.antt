use Rattle.entries.specs.Entered.{entry_in}
use Rattle.entries.proofs.entry.Goals as goal

pub returns : goal.returns
unfolding entry_in
returns c = rw (c.two-2.ensures.0, c.two.ensures.0)
