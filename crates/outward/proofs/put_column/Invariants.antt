-- `outward::put_column` meets its contract.
-- Assumes nothing.
use Prim.Native.Nat.{◌+◌, ◌*◌}
use Rattle.array.proofs.Filling.{Filled}
use Rattle.outward.specs.OutClauses.{interleaved_at}
use Rattle.outward.proofs.put_column.Given as goal

abbrev pub invariant-loop-k : goal.invariant-loop-k
invariant-loop-k l = Filled (interleaved_at l.array) 0 5760 l.out (8 * l.u + l.k)
