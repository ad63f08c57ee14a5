-- `ring::run` meets its contract. The loop's invariant: the ring, turned on by the places passed, stands for the register after as many bytes.
-- Assumes nothing.
use mathlib.Core.Path.{◌≡◌}
use Prim.Native.Nat.{◌+◌}
use native.Mathlib.Omega.{arith}
use borrow.Author.Rules.{rules}
use Rattle.ring.proofs.Turning.{turn_more}
use Rattle.ring.proofs.run.Goals as goal

pub loop-k-preserved : goal.loop-k-preserved
loop-k-preserved c = λ u t.
    let at = c.loop-k in
    let from = c.args.from in
    let e : from + at.k + 1 ≡ from + (at.k + 1) = omega arith in
    rw e at (turn_more u c.args.bytes.now at.w c.one.new.w (from + at.k) (search rules) c.one.ensures (at.invariant u t))
