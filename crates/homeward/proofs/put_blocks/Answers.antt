-- `homeward::put_blocks` meets its contract.
-- Assumes nothing.
use Prim.Native.Nat.{◌*◌}
use native.Mathlib.Omega.{arith}
use borrow.Author.Rules.{rules}
use Rattle.array.proofs.Filling.{filled_all}
use Rattle.homeward.proofs.Unplacing.{run_filled, block_at}
use Rattle.homeward.proofs.put_blocks.Goals as goal

pub loop-s-preserved : goal.loop-s-preserved
loop-s-preserved c =
    let s = c.loop-s.s in
    run_filled c.args.array.now _ _ _ 8 (8 * s) _ 24 c.loop-s.invariant (search rules) _ _ (λ m. block_at c.args.array.now c.args.first s m c.requires.0) c.put_each.ensures (omega arith)

pub returns : goal.returns
returns c = filled_all _ 0 _ _ (8 * c.loop-s.s) c.loop-s.invariant (search rules)
