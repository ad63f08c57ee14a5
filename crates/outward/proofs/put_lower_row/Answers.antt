-- `outward::put_lower_row` meets its contract.
-- Assumes nothing.
use mathlib.Core.Path.{refl}
use borrow.Author.Rules.{rules}
use native.Mathlib.Omega.{arith}
use Rattle.array.proofs.Filling.{filled_none}
use Rattle.outward.specs.OutClauses.{lower_row_at}
use Rattle.outward.proofs.Placing.{part_filled, lower_fits, lower_at}
use Rattle.outward.proofs.put_lower_row.Goals as goal

pub overflow_add-from : goal.overflow_add-from
overflow_add-from c =
    omega (arith, lower_fits c.requires _ c.index_at-from.ensures, c.requires)

pub slice_bounds-put_bytes-end-2 : goal.slice_bounds-put_bytes-end-2
slice_bounds-put_bytes-end-2 c =
    omega (arith, lower_fits c.requires _ c.index_at-from.ensures, c.requires)

pub returns : goal.returns
returns c =
    let a = c.args in
    let L = c.requires in
    let from = c.index_at-from.ensures in
    part_filled (lower_row_at a.w a.information.now a.i) 240 a.information.now a.row.now _ _ _ a.w 0 a.w (filled_none _ 0 240 _ (search rules)) (omega (arith, lower_fits L _ from)) (omega (arith, L.most)) (lower_at L _ (search rules) _ from) refl c.put_bytes.ensures (omega arith)
