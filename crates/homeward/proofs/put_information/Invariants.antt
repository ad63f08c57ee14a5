-- `homeward::put_information` meets its contract.
-- Assumes nothing.
use Prim.Native.Nat.{◌*◌}
use Rattle.array.specs.CodingArray.{superblock}
use Rattle.homeward.specs.BackClauses.{Out}
use Rattle.homeward.proofs.put_information.Given as goal

abbrev pub invariant-loop-s : goal.invariant-loop-s
invariant-loop-s l = Out l.w l.array l.out (l.s * superblock l.w)
