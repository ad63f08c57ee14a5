-- `homeward::put_check` meets its contract.
-- Assumes nothing.
use Prim.Native.Nat.{◌-◌, ◌*◌}
use Rattle.array.proofs.Filling.{Filled}
use Rattle.homeward.specs.BackClauses.{check_byte_of}
use Rattle.homeward.proofs.put_check.Given as goal

abbrev pub invariant-loop-i : goal.invariant-loop-i
invariant-loop-i l = Filled (check_byte_of l.w l.array) 0 (24 * (240 - l.w)) l.out (l.i * (240 - l.w))
