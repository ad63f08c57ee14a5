-- `homeward::interleaving` meets its contract.
-- Assumes nothing.
use Prim.Native.Nat.{◌+◌, ◌*◌}
use native.Mathlib.Omega.{arith}
use borrow.Author.Rules.{rules}
use Rattle.array.proofs.Filling.{filled_all}
use Rattle.homeward.specs.BackClauses.{interleaving_of}
use Rattle.homeward.proofs.Unplacing.{run_filled, line_at}
use Rattle.homeward.proofs.interleaving.Goals as goal

pub loop-line-preserved : goal.loop-line-preserved
loop-line-preserved c =
    let line = c.loop-line.line in
    run_filled c.args.output.now _ (16 * line + 1) 1 15 (15 * line) _ 5760 c.loop-line.invariant (search rules) _ _ (line_at c.args.output.now line) c.put_each.ensures (omega arith)

pub returns : goal.returns
unfolding interleaving_of
returns c = filled_all _ 0 _ _ (15 * c.loop-line.line) c.loop-line.invariant (search rules)
