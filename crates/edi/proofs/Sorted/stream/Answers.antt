use mathlib.Core.Path.{ap, ◌∙◌}
use native.Mathlib.Omega.{arith}
use lib.ListN.{take, drop}
use Rattle.frame.specs.declared.Span.{Span}
use Rattle.items.specs.TagItems.{items_of}
use Rattle.sorting.proofs.OnceMet.{highest_small}
use Rattle.edi.proofs.StreamsKept.{stream_at}
use Rattle.edi.proofs.Sorted.stream.Goals as goal

pub overflow_add-i : goal.overflow_add-i
overflow_add-i c = let s = c.args.self.now in omega (arith, s.highest, highest_small (items_of s.packet.now))

pub offset_bounds-self-i : goal.offset_bounds-self-i
offset_bounds-self-i c = let s = c.args.self.now in omega (arith, s.highest, highest_small (items_of s.packet.now))

pub bounds-self-i : goal.bounds-self-i
bounds-self-i c = let s = c.args.self.now in omega (arith, s.highest, highest_small (items_of s.packet.now))

pub returns : goal.returns
returns c =
    let s = c.args.self.now in
    c.value.ensures ∙ ap (λ (r : Span). take r.len (drop r.start s.packet.now)) c.span.ensures ∙ stream_at s.packet.now s.accepted s.notes.met s.placed c.args.i (omega (arith, s.highest))
