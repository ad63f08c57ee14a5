use mathlib.Core.Path.{◌≡◌}
use Rattle.frame.specs.Frame.{streams_to}
use Rattle.frame.specs.Answers.{table_by}
use Rattle.reading.proofs.table.Given as goal

abbrev pub invariant-loop-i : goal.invariant-loop-i
invariant-loop-i l = l.table ≡ table_by (streams_to l.frame l.i)
