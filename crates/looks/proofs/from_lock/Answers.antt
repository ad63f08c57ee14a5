use borrow.Author.Rules.{rules}
use mathlib.Core.Path.{◌∙◌}
use native.Mathlib.Omega.{arith}
use Rattle.looks.proofs.Tallies.{lock_frame, lock_null, lock_missed, lock_lost}
use Rattle.looks.proofs.from_lock.Goals as goal
use Rattle.looks.proofs.from_lock.Goals.{in-Ok-1, in-Err+in-Null-1}

pub returns-in-Ok : goal.returns-in-Ok
returns-in-Ok c =
    c.locked-in-Ok.ensures
    ∙ elim c.in-Ok-1.branch [
      | in-Ok-1 w ↦ lock_frame _ _ _ _ (search rules)
      | in-Err+in-Null-1 w ↦ lock_null _ _ _ _ (search rules)
    ]

pub returns-in-Err : goal.returns-in-Err
returns-in-Err c = c.locked.ensures ∙ lock_missed _ _ _ _ c.in-Err.field-0 c.in-Err.ensures (search rules) (omega arith)

pub returns-in-Err-2 : goal.returns-in-Err-2
returns-in-Err-2 c = c.hunting.ensures ∙ lock_lost _ _ _ _ c.in-Err.field-0 c.in-Err.ensures (search rules) (omega arith)
