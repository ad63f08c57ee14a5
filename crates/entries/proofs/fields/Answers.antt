use Rattle.entries.specs.Entered.{fields_in}
use Rattle.entries.proofs.fields.Goals as goal

pub returns : goal.returns
unfolding fields_in
returns c =
    rw (c.two-2.ensures.0, c.two.ensures.0, c.table.ensures, c.timestamp.ensures, c.word.ensures.0)
