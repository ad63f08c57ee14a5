use mathlib.Core.Bool.{true, false}
use Rattle.array.proofs.PartSizes.{compared_six}
use Rattle.array.proofs.lengths.Goals as goal

pub returns-then-ne : goal.returns-then-ne
returns-then-ne c = rw (← c.width.ensures.0) (compared_six true _ _ _ _ _ _ _ c.if-ne.ensures)

pub returns : goal.returns
returns c = rw (← c.width.ensures.0) (compared_six false _ _ _ _ _ _ _ c.if-ne.ensures)
