-- `places::is_beyond` meets its contract.
-- Assumes nothing.
use Rattle.places.specs.Places.{beyond}
use borrow.Author.Rules.{rules}
use Rattle.places.proofs.is_beyond.Goals as goal

pub returns : goal.returns
unfolding beyond
returns c = search rules
