-- `field::entry` meets its contract.
-- Assumes nothing.
use mathlib.Core.Path.{refl}
use Rattle.field.specs.FieldClauses.{entry_of}
use Rattle.field.proofs.entry.Goals as goal

pub returns : goal.returns
unfolding entry_of
returns c = refl
