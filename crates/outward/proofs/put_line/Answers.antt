-- `outward::put_line` meets its contract.
-- Assumes nothing.
use mathlib.Core.Path.{refl}
use Prim.Native.Nat.{◌+◌, ◌*◌}
use native.Mathlib.Omega.{arith}
use borrow.Author.Rules.{rules}
use Rattle.outward.proofs.Placing.{one_filled, part_filled}
use Rattle.outward.proofs.put_line.Goals as goal

pub returns : goal.returns
returns c f F e h =
    let a = c.args in
    let line = a.line in
    let G = one_filled f 6144 a.output.now _ a.first.now (16 * line) F c.requires.1 (search rules) e c.put_bytes.ensures in
    part_filled f 6144 a.array.now _ _ _ (15 * line) 15 (16 * line + 1) _ G (search rules) (search rules) h refl c.put_bytes-2.ensures (omega arith)
