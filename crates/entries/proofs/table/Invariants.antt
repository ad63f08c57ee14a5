use mathlib.Core.Path.{◌≡◌}
use Rattle.frame.specs.Answers.{table_by}
use Rattle.entries.specs.Entered.{entries_to}
use Rattle.entries.proofs.table.Given as goal

abbrev pub invariant-loop-i : goal.invariant-loop-i
invariant-loop-i l = l.table ≡ table_by (entries_to l.bytes l.i)
