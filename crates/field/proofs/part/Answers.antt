-- `field::part` meets its contract.
-- Assumes nothing.
use Rattle.field.proofs.FieldTurns.{part_in, part_out}
use Rattle.field.proofs.part.Goals as goal

pub returns-then-d-eq1 : goal.returns-then-d-eq1
returns-then-d-eq1 c = part_in _ _ c.if-d-eq1.true

pub returns-else-d-eq1 : goal.returns-else-d-eq1
returns-else-d-eq1 c = part_out _ _ c.if-d-eq1.false
