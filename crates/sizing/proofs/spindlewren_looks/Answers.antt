use mathlib.Core.Path.{refl, sym}
use Rattle.refusals.proofs.Numbers.{above_zero}
use Rattle.walks.proofs.WalkTelling.{limit_refused, limited_length, limited_given}
use Rattle.sizing.proofs.Counts.{never_refused, told_tests, stored}
use Rattle.sizing.proofs.spindlewren_looks.Goals as goal

pub returns-in-Err : goal.returns-in-Err
returns-in-Err c = rw c.number.ensures.0 (limit_refused _ 8 _ _ _ c.in-Err.ensures (above_zero _))

pub returns-then-answer-ne8 : goal.returns-then-answer-ne8
returns-then-answer-ne8 c = rw c.number-then-answer-ne8.ensures.0 (limited_length _ 8 _ _ _ c.in_default.ensures refl c.if-answer-ne8.true)

pub unwrap-count-requires : goal.unwrap-count-requires
unwrap-count-requires c = never_refused _ _ (sym c.in_default.ensures) _ c.count.ensures

pub returns : goal.returns
returns c =
    let count = told_tests _ _ (sym c.in_default.ensures) _ c.count.ensures _ c.unwrap-count.ensures in
    limited_given _ 8 _ _ _ c.in_default.ensures refl c.if-answer-ne8.false _ (stored _ _ _ _ _ c.if-answer-ne8.false count c.put8.ensures)
