-- `homeward::put_upper_row` meets its contract.
-- Assumes nothing.
use mathlib.Core.Path.{◌≡◌, refl}
use Prim.Native.Nat.{◌+◌, ◌-◌, ◌*◌}
use native.Mathlib.Nat.{le_antisymm}
use native.Mathlib.Omega.{arith}
use borrow.Author.Rules.{rules}
use Rattle.homeward.proofs.Unplacing.{run_reach, run_out, upper_run}
use Rattle.homeward.proofs.put_upper_row.Goals as goal

pub put_each-requires : goal.put_each-requires
put_each-requires c =
    let pre = c.requires in
    let b = c.loop-b.b in
    run_reach pre.wide _ _ c.args.i (30 * b + 1) 29 (c.args.at + 29 * b) _ (search rules) c.interleaved.ensures (upper_run _ _ b 29 _ _ pre.wide pre.row pre.upper (omega arith) (search rules) pre.next refl) c.loop-b.invariant

pub loop-b-preserved : goal.loop-b-preserved
loop-b-preserved c =
    let pre = c.requires in
    let b = c.loop-b.b in
    run_out pre.wide c.args.array.now _ c.args.i (30 * b + 1) 29 (c.args.at + 29 * b) _ (search rules) c.interleaved.ensures (upper_run _ _ b 29 _ _ pre.wide pre.row pre.upper (omega arith) (search rules) pre.next refl) c.loop-b.invariant _ _ c.put_each.ensures (omega arith)

pub put_each-requires-2 : goal.put_each-requires-2
put_each-requires-2 c =
    let pre = c.requires in
    let w = c.args.w in
    let e : c.loop-b.b ≡ 7 = le_antisymm c.loop-b.auto.b-end c.loop-b-test.false in
    let F = c.loop-b.invariant in
    run_reach pre.wide _ _ c.args.i 211 (w - 211) (c.args.at + 203) _ (search rules) c.interleaved-2.ensures (upper_run _ _ 7 (w - 211) _ _ pre.wide pre.row pre.upper (search rules) (search rules) pre.next refl) (rw e at F)

pub returns : goal.returns
returns c =
    let pre = c.requires in
    let w = c.args.w in
    let e : c.loop-b.b ≡ 7 = le_antisymm c.loop-b.auto.b-end c.loop-b-test.false in
    let F = c.loop-b.invariant in
    run_out pre.wide c.args.array.now _ c.args.i 211 (w - 211) (c.args.at + 203) _ (search rules) c.interleaved-2.ensures (upper_run _ _ 7 (w - 211) _ _ pre.wide pre.row pre.upper (search rules) (search rules) pre.next refl) (rw e at F) _ _ c.put_each-2.ensures (omega (arith, pre.wide))
