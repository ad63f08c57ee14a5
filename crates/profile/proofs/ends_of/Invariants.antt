-- `profile::ends_of` meets its contract.
-- Assumes nothing.
use Rattle.capacity.specs.Sizes.{units_in, equal_in}
use Rattle.profile.proofs.ends_of.Given as goal

abbrev pub ghost-ends_by : goal.ghost-ends_by
ghost-ends_by a = units_in

abbrev pub ghost-ends_by-2 : goal.ghost-ends_by-2
ghost-ends_by-2 a = equal_in
