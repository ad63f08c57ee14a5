-- `profile::Streams::some_meet` meets its contract.
-- Assumes nothing.
use mathlib.Core.Path.{◌≡◌}
use lib.ListN.{length, get_or}
use Prim.Native.Nat.{◌-◌, ◌%◌, ◌≤◌}
use Rattle.places.specs.Places.{some_pair, meets}
use Rattle.profile.specs.ProfileClauses.{place_by, laid_to}
use Rattle.profile.proofs.UnitMap.{Mapped, MappedTo, MetTo}
use Rattle.profile.proofs.Streams.some_meet.Given as goal

abbrev pub invariant-loop-u : goal.invariant-loop-u
invariant-loop-u l =
    (length l.map ≡ 864)
    × (l.u - get_or l.self.highs l.i 0 % 1024 ≤ get_or l.self.ends l.i 0 - get_or l.self.highs l.i 0 % 1024)
    × MappedTo l.map (laid_to l.self.highs l.self.lows l.i) (place_by (get_or l.self.highs l.i 0) (get_or l.self.lows l.i 0)) l.u
    × MetTo l.found (laid_to l.self.highs l.self.lows l.i) (place_by (get_or l.self.highs l.i 0) (get_or l.self.lows l.i 0)) l.u

abbrev pub invariant-loop-i : goal.invariant-loop-i
invariant-loop-i l =
    (length l.map ≡ 864) × Mapped l.map (laid_to l.self.highs l.self.lows l.i) × (l.found ≡ some_pair meets (laid_to l.self.highs l.self.lows l.i))
