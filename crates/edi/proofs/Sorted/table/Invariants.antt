use mathlib.Core.Path.{◌≡◌}
use Rattle.frame.specs.Answers.{table_by}
use Rattle.items.specs.TagItems.{items_of}
use Rattle.edi.specs.Regenerating.{entries_to}
use Rattle.edi.proofs.Sorted.table.Given as goal

abbrev pub invariant-loop-i : goal.invariant-loop-i
invariant-loop-i l = l.table ≡ table_by (entries_to (items_of l.self.packet.now) l.i)
