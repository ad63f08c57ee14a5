-- `homeward::coding_array` meets its contract.
-- Assumes nothing.
use mathlib.Core.List.{[]}
use mathlib.Core.Path.{◌∙◌}
use borrow.Author.Rules.{rules}
use Rattle.array.specs.OutputArray.{array_row, array_of}
use Rattle.array.proofs.Filling.{filled_all, list_same}
use Rattle.homeward.proofs.Unplacing.{row_is}
use Rattle.homeward.proofs.coding_array.Invariants.{row_of}
use Rattle.homeward.proofs.coding_array.Goals as goal

pub returns : goal.returns
unfolding array_of
returns c o e =
    filled_all _ [] 24 _ c.loop-i.i c.loop-i.invariant (search rules)
    ∙ list_same (row_of c.args.array.now) (array_row o) 24 (λ i h. row_is o _ i h e)
