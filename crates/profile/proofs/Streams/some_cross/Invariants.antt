-- `profile::Streams::some_cross` meets its contract.
-- Assumes nothing.
use Rattle.profile.specs.ProfileClauses.{laid_to}
use Rattle.profile.proofs.Noting.{Risen}
use Rattle.profile.proofs.Streams.some_cross.Given as goal

abbrev pub invariant-loop-i : goal.invariant-loop-i
invariant-loop-i l = Risen (laid_to l.self.highs l.self.lows l.i) l.found l.reach
