-- `profile::some_unequal` meets its contract.
-- Assumes nothing.
use mathlib.Core.Bool.{false}
use mathlib.Core.Path.{◌≡◌}
use Rattle.profile.proofs.Tables.{AllEqual}
use Rattle.profile.proofs.some_unequal.Given as goal

abbrev pub invariant-loop-low : goal.invariant-loop-low
invariant-loop-low l = l.found ≡ false → AllEqual l.lows l.low-index
