-- `outward::put_block` meets its contract.
-- Assumes nothing.
use mathlib.Core.Path.{refl}
use Prim.Native.Nat.{◌+◌, ◌*◌, ◌/◌}
use native.Mathlib.Omega.{arith}
use borrow.Author.Rules.{rules}
use Rattle.outward.specs.OutClauses.{upper_row_at}
use Rattle.outward.proofs.Placing.{part_filled, block_fits, first_at, byte_at}
use Rattle.outward.proofs.put_block.Goals as goal

pub overflow_add-from : goal.overflow_add-from
overflow_add-from c =
    omega (arith, block_fits c.requires (search rules) _ c.index_at-from.ensures)

pub slice_bounds-put_bytes-end-4 : goal.slice_bounds-put_bytes-end-4
slice_bounds-put_bytes-end-4 c =
    omega (arith, block_fits c.requires (search rules) _ c.index_at-from.ensures, c.requires.upper)

pub returns : goal.returns
returns c =
    let a = c.args in
    let B = c.requires in
    let f = upper_row_at a.w a.information.now a.beside.now a.i in
    let from = c.index_at-from.ensures in
    let F = part_filled f 240 a.beside.now a.row.now _ _ (a.i / 8 * 8 + a.b) 1 (30 * a.b) (30 * a.b + 1) B.so_far (omega (arith, B.block, B.upper)) (omega (arith, B.block)) (first_at B (search rules)) refl c.put_bytes.ensures refl in
    part_filled f 240 a.information.now _ _ _ _ a.n (30 * a.b + 1) _ F (omega (arith, block_fits B (search rules) _ from, B.upper)) (omega (arith, B.within, B.upper)) (byte_at B (search rules) _ from) refl c.put_bytes-2.ensures refl
