-- `outward::put_upper_row` meets its contract.
-- Assumes nothing.
use Prim.Native.Nat.{◌*◌}
use Rattle.array.proofs.Filling.{Filled}
use Rattle.outward.specs.OutClauses.{upper_row_at}
use Rattle.outward.proofs.put_upper_row.Given as goal

abbrev pub invariant-loop-b : goal.invariant-loop-b
invariant-loop-b l = Filled (upper_row_at l.w l.information l.beside l.i) 0 240 l.row (30 * l.b)
