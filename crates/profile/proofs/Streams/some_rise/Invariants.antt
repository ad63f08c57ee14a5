-- `profile::Streams::some_rise` meets its contract.
-- Assumes nothing.
use Rattle.profile.specs.ProfileClauses.{laid_to}
use Rattle.profile.proofs.Noting.{Fallen}
use Rattle.profile.proofs.Streams.some_rise.Given as goal

abbrev pub invariant-loop-i : goal.invariant-loop-i
invariant-loop-i l = Fallen (laid_to l.self.highs l.self.lows l.i) l.found l.begun
