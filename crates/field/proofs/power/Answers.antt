-- `field::power` meets its contract: the rule of the table is one computed test over its 255 entries.
-- Assumes nothing.
use mathlib.Core.Path.{refl, ◌∙◌}
use Rattle.sum.specs.Sum.{bit}
use Rattle.field.specs.Field.{twice}
use Rattle.field.proofs.Inverses.{table_at}
use Rattle.field.proofs.power.Goals as goal

pub returns : goal.returns
unfolding twice bit
returns c = c.entry.ensures ∙ table_at _ tt refl c.args.n
