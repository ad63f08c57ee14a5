-- `outward::coded_array` meets its contract.
-- Assumes nothing.
use mathlib.Core.List.{[]}
use mathlib.Core.Path.{◌∙◌}
use borrow.Author.Rules.{rules}
use Rattle.array.specs.CodingArray.{coding_array}
use Rattle.array.proofs.Filling.{filled_more, filled_all}
use Rattle.outward.proofs.Placing.{row_same}
use Rattle.outward.proofs.CodedOut.{row_coded}
use Rattle.outward.proofs.coded_array.Goals as goal

pub loop-i-preserved : goal.loop-i-preserved
loop-i-preserved c =
    let a = c.args in
    let i = c.loop-i.i in
    filled_more _ [] 24 _ i _ c.loop-i.invariant (search rules)
    (row_coded a.fourteen a.information.now a.management.now a.supervision.now _ _ _ i _ c.width-w.ensures.0 (search rules)
    (c.coding_row-uncoded.ensures ∙ row_same _ a.information.now _ a.management.now a.supervision.now _ i c.filled-all.ensures) c.coded_row.ensures)

pub returns : goal.returns
unfolding coding_array
returns c = filled_all _ [] 24 _ c.loop-i.i c.loop-i.invariant (search rules)
