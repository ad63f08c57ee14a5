-- `places::placed` meets its contract.
-- Assumes nothing.
use mathlib.Core.Path.{ap}
use Rattle.places.specs.Places.{place_of}
use Rattle.places.proofs.placed.Goals as goal

pub returns : goal.returns
unfolding place_of
returns c = rw c.units.ensures.0 (ap place_of c.entry-s.ensures)
