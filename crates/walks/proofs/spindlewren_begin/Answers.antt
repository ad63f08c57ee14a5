use mathlib.Core.Path.{refl}
use Rattle.refusals.proofs.Numbers.{above_zero}
use Rattle.walks.proofs.WalkTelling.{limit_refused, limited_length, limited_given, begun_left}
use Rattle.walks.proofs.spindlewren_begin.Goals as goal

pub returns-in-Err : goal.returns-in-Err
returns-in-Err c = rw c.number.ensures.0 (limit_refused _ 23 _ _ _ c.in-Err.ensures (above_zero _))

pub returns-then-walk-ne23 : goal.returns-then-walk-ne23
returns-then-walk-ne23 c = rw c.number-then-walk-ne23.ensures.0 (limited_length _ 23 _ _ _ c.in_default.ensures refl c.if-walk-ne23.true)

pub returns : goal.returns
returns c =
    limited_given _ 23 _ _ _ c.in_default.ensures refl c.if-walk-ne23.false _
    (begun_left _ _ _ _ c.if-walk-ne23.false c.in_default.ensures refl (rw c.hunting-position.ensures at c.put_told.ensures))
