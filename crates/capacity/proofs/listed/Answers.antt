-- `capacity::listed` meets its contract.
-- Assumes nothing.
use Rattle.std.proofs.Common.{refl}
use Rattle.capacity.specs.declared.TheConstants.{SIZES}
use Rattle.capacity.specs.Sizes.{unequal_sizes}
use Rattle.capacity.proofs.SizeLaws.{row_listed}
use Rattle.capacity.proofs.listed.Goals as goal

pub returns : goal.returns
unfolding unequal_sizes
returns c = row_listed SIZES refl refl refl c.args.row c.args.column c.requires.0 c.requires.1
