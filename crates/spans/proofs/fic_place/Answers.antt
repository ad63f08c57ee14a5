use mathlib.Core.Path.{refl, ◌∙◌}
use Rattle.frame.proofs.Tiling.{granted_refused, granted_given}
use Rattle.frame.specs.Rules.{fic_part}
use Rattle.refusals.proofs.Numbers.{above_zero}
use Rattle.spans.proofs.fic_place.Goals as goal

pub returns-in-Ok : goal.returns-in-Ok
unfolding fic_part
returns-in-Ok c = c.fic_span.ensures ∙ granted_given _ _ _ c.in-Ok.ensures refl

pub returns-in-Err : goal.returns-in-Err
unfolding fic_part
returns-in-Err c = granted_refused _ _ _ c.in-Err.ensures (above_zero _)
