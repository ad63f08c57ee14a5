use native.Mathlib.Omega.{arith}
use mathlib.Core.Path.{refl, sym, ◌∙◌}
use Rattle.frame.proofs.Tiling.{granted_refused, granted_given, stream_granted}
use Rattle.frame.specs.Rules.{stream_part}
use Rattle.refusals.proofs.Numbers.{above_zero}
use Rattle.spans.proofs.stream_place.Goals as goal

pub overflow_cast-i : goal.overflow_cast-i
overflow_cast-i c = let g = stream_granted _ _ (sym c.in-Ok.ensures) in omega (arith, g.0.streams)

pub returns-in-Ok : goal.returns-in-Ok
unfolding stream_part
returns-in-Ok c = c.stream_span.ensures ∙ granted_given _ _ _ c.in-Ok.ensures refl

pub returns-in-Err : goal.returns-in-Err
unfolding stream_part
returns-in-Err c = granted_refused _ _ _ c.in-Err.ensures (above_zero _)
