use mathlib.Core.Path.{ap, ◌∙◌}
use lib.ListN.{take, drop}
use Rattle.frame.specs.declared.Span.{Span}
use Rattle.edi.proofs.StreamsKept.{management_at}
use Rattle.edi.proofs.Sorted.management.Goals as goal

pub returns : goal.returns
returns c =
    let s = c.args.self.now in
    c.value.ensures ∙ ap (λ (r : Span). take r.len (drop r.start s.packet.now)) c.span.ensures ∙ management_at s.packet.now s.accepted s.notes.met s.placed
