use mathlib.Core.Path.{refl}
use Rattle.edi.specs.EdiClauses.{long_to}
use Rattle.edi.proofs.StreamsKept.{long_more}
use Rattle.edi.proofs.Sorted.some_long.Goals as goal

pub loop-i-init : goal.loop-i-init
unfolding long_to
loop-i-init c = refl

pub loop-i-preserved : goal.loop-i-preserved
loop-i-preserved c = rw (long_more, c.loop-i.invariant, c.stream.ensures)
