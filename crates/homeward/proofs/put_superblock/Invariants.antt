-- `homeward::put_superblock` meets its contract.
-- Assumes nothing.
use Prim.Native.Nat.{◌+◌, ◌-◌, ◌*◌}
use Rattle.array.specs.CodingArray.{superblock}
use Rattle.homeward.specs.BackClauses.{Out}
use Rattle.homeward.proofs.put_superblock.Given as goal

abbrev pub invariant-loop-k : goal.invariant-loop-k
invariant-loop-k l = Out l.w l.array l.out (l.s * superblock l.w + l.k * l.w - 16)
