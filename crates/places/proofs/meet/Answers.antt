-- `places::meet` meets its contract.
-- Assumes nothing.
use Rattle.places.specs.Places.{meets}
use borrow.Author.Rules.{rules}
use Rattle.places.proofs.meet.Goals as goal

pub returns : goal.returns
unfolding meets
returns c = search rules
