-- `profile::end_of` meets its contract.
-- Assumes nothing.
use Rattle.profile.specs.ProfileClauses.{end_by}
use borrow.Author.Tests.{eq-eqb, ne_eqb}
use Rattle.profile.proofs.end_of.Goals as goal

pub returns-then-units-eq0 : goal.returns-then-units-eq0
unfolding end_by
returns-then-units-eq0 c = rw (eq-eqb _ 0 c.if-units-eq0.true)

pub returns-else-units-eq0 : goal.returns-else-units-eq0
unfolding end_by
returns-else-units-eq0 c = rw (ne_eqb _ 0 c.if-units-eq0.false)
