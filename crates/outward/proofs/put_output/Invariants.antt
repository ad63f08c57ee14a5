-- `outward::put_output` meets its contract.
-- Assumes nothing.
use Prim.Native.Nat.{◌*◌}
use Rattle.array.specs.OutputArray.{output_at}
use Rattle.array.proofs.Filling.{Filled}
use Rattle.outward.specs.OutClauses.{beside}
use Rattle.outward.proofs.put_output.Given as goal

abbrev pub invariant-loop-n : goal.invariant-loop-n
invariant-loop-n l = Filled (output_at (beside l.synchronising l.signalling) l.array) 0 6144 l.output (32 * l.n)
