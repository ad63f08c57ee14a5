-- `places::is_unsized` meets its contract.
-- Assumes nothing.
use Rattle.places.specs.Places.{unsized}
use borrow.Author.Rules.{rules}
use Rattle.places.proofs.is_unsized.Goals as goal

pub returns : goal.returns
unfolding unsized
returns c = search rules
