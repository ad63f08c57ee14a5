-- `outward::coding_row` meets its contract.
-- Assumes nothing.
use mathlib.Core.Path.{refl}
use Prim.Native.Nat.{◌-◌, ◌*◌}
use native.Mathlib.Omega.{arith}
use Rattle.array.specs.CodingArray.{contents, coding_row}
use Rattle.array.proofs.Filling.{filled_all}
use Rattle.outward.specs.OutClauses.{in_array}
use Rattle.outward.proofs.Placing.{part_filled, check_at, check_fits}
use Rattle.outward.proofs.coding_row.Goals as goal

pub returns : goal.returns
unfolding coding_row
returns c =
    let a = c.args in
    let w = a.w in
    let r = a.check.now in
    let f = contents w (in_array a.information.now a.management.now a.supervision.now r) a.i in
    let F = c.put_columns.ensures r in
    let H = c.requires.0 in
    filled_all f 0 240 _ 240
    (part_filled f 240 r _ _ _ (a.i * (240 - w)) (240 - w) w 240 F (omega (arith, check_fits w a.i c.requires.1, H.check)) (omega (arith, H.most)) (check_at w a.i a.information.now a.management.now a.supervision.now r) refl c.put_bytes.ensures (omega (arith, H.most)))
    (omega arith)
