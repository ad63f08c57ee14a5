-- `profile::units_of` meets its contract.
-- Assumes nothing.
use Prim.Native.Nat.{◌/◌, ◌%◌}
use native.Mathlib.Omega.{arith}
use mathlib.Core.Path.{◌∙◌}
use Rattle.capacity.proofs.SizeLaws.{unequal_le}
use Rattle.profile.proofs.Tables.{equal_whole}
use Rattle.profile.proofs.units_of.Goals as goal

pub overflow_cast-result : goal.overflow_cast-result
overflow_cast-result c = omega (arith, unequal_le (c.args.low / 1024) (c.args.low % 1024) (omega arith), c.units.ensures.0)

pub returns-then-low-lt32768 : goal.returns-then-low-lt32768
returns-then-low-lt32768 c = (c.units.ensures.0, omega (arith, unequal_le (c.args.low / 1024) (c.args.low % 1024) (omega arith), c.units.ensures.0))

pub returns-else-low-lt32768 : goal.returns-else-low-lt32768
returns-else-low-lt32768 c = (c.equal_units.ensures.0 ∙ equal_whole _ c.if-low-lt32768.false, c.equal_units.ensures.1)
