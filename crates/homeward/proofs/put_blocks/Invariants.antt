-- `homeward::put_blocks` meets its contract.
-- Assumes nothing.
use Prim.Native.Nat.{◌*◌}
use Rattle.array.proofs.Filling.{Filled}
use Rattle.homeward.specs.BackClauses.{block_of}
use Rattle.homeward.proofs.put_blocks.Given as goal

abbrev pub invariant-loop-s : goal.invariant-loop-s
invariant-loop-s l = Filled (block_of l.first l.array) 0 24 l.out (8 * l.s)
