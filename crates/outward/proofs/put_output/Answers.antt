-- `outward::put_output` meets its contract.
-- Assumes nothing.
use Prim.Native.Nat.{◌*◌}
use borrow.Author.Rules.{rules}
use Rattle.array.proofs.Filling.{filled_all}
use Rattle.outward.specs.OutClauses.{output_by}
use Rattle.outward.proofs.Placing.{even_line, odd_line}
use Rattle.outward.proofs.put_output.Goals as goal

pub loop-n-preserved : goal.loop-n-preserved
loop-n-preserved c =
    let a = c.args in
    let loop = c.loop-n in
    let x = c.interleaving-interleaved.ensures in
    let k = c.loop-n-test.true in
    let F = even_line a.synchronising.now a.signalling.now a.array.now _ _ _ loop.n x k c.put_line.ensures loop.invariant in
    odd_line a.synchronising.now a.signalling.now a.array.now _ _ _ loop.n x k c.put_line-in-loop-n.ensures F

pub returns : goal.returns
unfolding output_by
returns c = filled_all _ 0 _ _ (32 * c.loop-n.n) c.loop-n.invariant (search rules)
