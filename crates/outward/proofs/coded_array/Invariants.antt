-- `outward::coded_array` meets its contract.
-- Assumes nothing.
use mathlib.Core.List.{[]}
use Rattle.array.specs.CodingArray.{width_of, coding_row}
use Rattle.coded.specs.Coded.{coded}
use Rattle.outward.specs.OutClauses.{in_array}
use Rattle.array.proofs.Filling.{Filled}
use Rattle.outward.proofs.coded_array.Given as goal

abbrev pub invariant-loop-i : goal.invariant-loop-i
invariant-loop-i l = Filled (coding_row (width_of l.fourteen) (coded (width_of l.fourteen) (in_array l.information l.management l.supervision []))) [] 24 l.row-items l.i
