use mathlib.Core.Path.{refl}
use Rattle.refusals.proofs.Numbers.{above_zero}
use Rattle.reasons.proofs.Asked.{limit_refused, length-refused, asks_refused, asks_given}
use Rattle.reasons.proofs.spindlewren_why.Goals as goal

pub returns-in-Err : goal.returns-in-Err
returns-in-Err c = rw c.number.ensures.0 (limit_refused _ _ _ _ _ c.in-Err.ensures (above_zero _))

pub returns-then-answer-ne10 : goal.returns-then-answer-ne10
returns-then-answer-ne10 c = rw c.number-then-answer-ne10.ensures.0 (length-refused _ _ _ _ _ c.in_default.ensures refl c.if-answer-ne10.true)

pub returns-in-Ok : goal.returns-in-Ok
returns-in-Ok c = asks_given _ _ _ _ _ c.in_default.ensures refl c.if-answer-ne10.false _ c.in-Ok.ensures _ c.put_reason.ensures

pub returns-in-Err-why : goal.returns-in-Err-why
returns-in-Err-why c =
    rw c.number-in-Err-why.ensures.0 (asks_refused _ _ _ _ _ c.in_default.ensures refl c.if-answer-ne10.false _ c.in-Err-why.ensures)
