-- Nothing in this file need be believed: clauses between private functions.
-- Assumes nothing.
use Rattle.std.specs.Prelude.{true, false, List, ◌≡◌, ℕ, ◌+◌, ◌<◌, length}
use Rattle.walk.specs.declared.State.{State}
use Rattle.walk.specs.declared.Step.{Step}
use Rattle.walk.specs.ItemValues.{place_of}
use Rattle.live.specs.Live.{wants, far}

-- the places of a step, d bytes later, are numbers of 64 bits
pub record Telling (r : Step) (d : ℕ) : Type 0 where
  pub item : d + place_of r.item < 18446744073709551616
  pub walk : d + r.walk.position.place < 18446744073709551616

-- the window is not at the line's last place, and the walk, hunting or in lock, would go on with more bytes
pub record Hunts (s : State) (w : List ℕ) : Type 0 where
  pub near : s.position.place + length w < far
  pub wanted : wants true s.limit s.position.misses s.position.lock ≡ true
  pub hunting : s.position.lock ≡ false

pub record Locks (s : State) (w : List ℕ) : Type 0 where
  pub near : s.position.place + length w < far
  pub wanted : wants true s.limit s.position.misses s.position.lock ≡ true
  pub locked : s.position.lock ≡ true
