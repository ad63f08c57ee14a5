-- `places::same` meets its contract.
-- Assumes nothing.
use Rattle.places.specs.Places.{same_scid}
use borrow.Author.Rules.{rules}
use Rattle.places.proofs.same.Goals as goal

pub returns : goal.returns
unfolding same_scid
returns c = search rules
