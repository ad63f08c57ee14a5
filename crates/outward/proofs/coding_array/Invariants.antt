-- `outward::coding_array` meets its contract.
-- Assumes nothing.
use mathlib.Core.List.{[]}
use Rattle.array.specs.CodingArray.{coding_row}
use Rattle.outward.specs.OutClauses.{in_array}
use Rattle.array.proofs.Filling.{Filled}
use Rattle.outward.proofs.coding_array.Given as goal

abbrev pub invariant-loop-i : goal.invariant-loop-i
invariant-loop-i l = Filled (coding_row l.w (in_array l.information l.management l.supervision l.check)) [] 24 l.row-items l.i
