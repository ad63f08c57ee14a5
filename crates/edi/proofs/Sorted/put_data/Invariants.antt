use Rattle.items.specs.TagItems.{items_of}
use Rattle.edi.proofs.StreamsKept.{Filling}
use Rattle.edi.proofs.Sorted.put_data.Given as goal

abbrev pub invariant-loop-i : goal.invariant-loop-i
invariant-loop-i l = Filling (items_of l.self.packet.now) l.initial.main l.at l.main l.next l.i
