-- `profile::Streams::notes` meets its contract.
-- Assumes nothing.
use Rattle.profile.specs.ProfileClauses.{Noted, laid_to}
use Rattle.profile.proofs.Streams.notes.Given as goal

abbrev pub invariant-loop-i : goal.invariant-loop-i
invariant-loop-i l = Noted (laid_to l.self.highs l.self.lows l.i) l.notes
