-- `homeward::put_rows` meets its contract.
-- Assumes nothing.
use lib.ListN.{length}
use Rattle.array.specs.CodingArray.{width_of}
use Rattle.array.proofs.Filling.{Filled}
use Rattle.homeward.specs.RowsClean.{clean_row}
use Rattle.homeward.proofs.put_rows.Given as goal

abbrev pub invariant-loop-i : goal.invariant-loop-i
invariant-loop-i l = Filled (clean_row (width_of l.fourteen) l.output) 0 (length l.initial.clean) l.clean l.i
