-- `homeward::put_upper_row` meets its contract.
-- Assumes nothing.
use Prim.Native.Nat.{◌+◌, ◌*◌}
use Rattle.homeward.specs.BackClauses.{Out}
use Rattle.homeward.proofs.put_upper_row.Given as goal

abbrev pub invariant-loop-b : goal.invariant-loop-b
invariant-loop-b l = Out l.w l.array l.out (l.at + 29 * l.b)
