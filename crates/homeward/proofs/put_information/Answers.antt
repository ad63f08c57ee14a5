-- `homeward::put_information` meets its contract.
-- Assumes nothing.
use Prim.Native.Nat.{◌*◌}
use native.Mathlib.Nat.{mul-le-mul_right}
use Rattle.array.specs.CodingArray.{superblock}
use Rattle.array.proofs.Filling.{filled_all}
use Rattle.homeward.proofs.put_information.Goals as goal

pub returns : goal.returns
returns c = filled_all _ 0 _ _ (c.loop-s.s * superblock c.args.w) c.loop-s.invariant (mul-le-mul_right _ c.loop-s-test.false)
