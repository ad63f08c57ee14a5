-- `outward::interleaving` meets its contract.
-- Assumes nothing.
use Prim.Native.Nat.{◌*◌}
use Rattle.array.proofs.Filling.{Filled}
use Rattle.outward.specs.OutClauses.{interleaved_at}
use Rattle.outward.proofs.interleaving.Given as goal

abbrev pub invariant-loop-u : goal.invariant-loop-u
invariant-loop-u l = Filled (interleaved_at l.array) 0 5760 l.out (8 * l.u)
