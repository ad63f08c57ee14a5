use Rattle.controller.proofs.Telling.{told_refused, told_given}
use Rattle.walks.proofs.WalkTelling.{lock_wide, lock_fits, step_left}
use mathlib.Core.Path.{refl}
use native.Mathlib.Omega.{arith}
use borrow.Author.Rules.{rules}
use Rattle.walks.proofs.spindlewren_step.Goals as goal

pub returns-then-walk-gt1 : goal.returns-then-walk-gt1
returns-then-walk-gt1 c =
    rw c.number-then-walk-gt1.ensures.0 (told_refused 23 _ _ _ (search rules) 12 (lock_wide _ c.if-walk-gt1.true) (λ z. omega arith))

pub returns : goal.returns
returns c =
    let left = step_left _ _ _ _ (search rules) c.put_item.ensures in
    told_given 23 _ _ _ (search rules) 0 (lock_fits _ c.if-walk-gt1.false) refl _ (rw (← c.state_in.ensures, ← c.step-step.ensures) left)
