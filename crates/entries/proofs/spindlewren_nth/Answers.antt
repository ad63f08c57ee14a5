use mathlib.Core.Path.{refl}
use Rattle.refusals.proofs.Numbers.{above_zero}
use Rattle.walks.proofs.WalkTelling.{limit_refused, limited_length}
use Rattle.entries.proofs.spindlewren_nth.Goals as goal

pub returns-in-Err : goal.returns-in-Err
returns-in-Err c = rw c.number.ensures.0 (limit_refused _ 10 _ _ _ c.in-Err.ensures (above_zero _))

pub returns-then-answer-ne10 : goal.returns-then-answer-ne10
returns-then-answer-ne10 c = rw c.number-then-answer-ne10.ensures.0 (limited_length _ 10 _ _ _ c.in_default.ensures refl c.if-answer-ne10.true)
