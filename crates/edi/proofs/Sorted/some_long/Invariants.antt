use mathlib.Core.Path.{◌≡◌}
use Rattle.items.specs.TagItems.{items_of}
use Rattle.edi.specs.EdiClauses.{long_to}
use Rattle.edi.proofs.Sorted.some_long.Given as goal

abbrev pub invariant-loop-i : goal.invariant-loop-i
invariant-loop-i l = l.long ≡ long_to (items_of l.self.packet.now) l.i
