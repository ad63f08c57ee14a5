use mathlib.Core.Path.{ap, ◌∙◌}
use borrow.Author.Rules.{rules}
use Rattle.array.specs.Listed.{list}
use Rattle.array.proofs.Filling.{filled_more, filled_all}
use Rattle.homeward.specs.RowsClean.{clean_rows}
use Rattle.homeward.proofs.RowsTold.{array_row_lem}
use Rattle.homeward.proofs.put_rows.Goals as goal

pub loop-i-preserved : goal.loop-i-preserved
loop-i-preserved c =
    let o = c.args.output.now in
    let i = c.loop-i.i in
    let b = c.from.ensures in
    filled_more _ 0 _ _ i _ c.loop-i.invariant (search rules)
    (search rules ∙ c.clean_row.ensures o i (array_row_lem o _ i (c.coding_array-coding.ensures o c.interleaving.ensures) (search rules)))

pub returns : goal.returns
unfolding clean_rows
returns c = filled_all _ 0 _ _ c.loop-i.i c.loop-i.invariant (search rules) ∙ ap (list _) c.requires
