-- `homeward::array_row` meets its contract.
-- Assumes nothing.
use mathlib.Core.Path.{refl, ◌∙◌}
use Rattle.homeward.specs.BackClauses.{cell}
use Rattle.homeward.proofs.Unplacing.{each_is, row_at}
use Rattle.homeward.proofs.array_row.Goals as goal

pub returns : goal.returns
returns c =
    let x = c.args.array.now in
    c.put_each.ensures
    ∙ each_is x _ _ 8 240 (cell x c.args.i) refl (row_at x c.args.i _ c.interleaved.ensures)
