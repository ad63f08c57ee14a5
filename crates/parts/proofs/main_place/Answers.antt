use mathlib.Core.Path.{refl, sym, ◌∙◌}
use Rattle.frame.proofs.Accepting.{acceptable}
use Rattle.frame.proofs.Tiling.{granted_refused, granted_given}
use Rattle.frame.specs.Rules.{main_part}
use Rattle.refusals.proofs.Numbers.{above_zero}
use Rattle.parts.proofs.main_place.Goals as goal

pub main_span-requires : goal.main_span-requires
main_span-requires c = acceptable _ (sym c.in-Ok.ensures)

pub returns-in-Ok : goal.returns-in-Ok
unfolding main_part
returns-in-Ok c = c.main_span.ensures ∙ granted_given _ _ _ c.in-Ok.ensures refl

pub returns-in-Err : goal.returns-in-Err
unfolding main_part
returns-in-Err c = granted_refused _ _ _ c.in-Err.ensures (above_zero _)
