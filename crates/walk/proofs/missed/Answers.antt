use mathlib.Core.Path.{◌∙◌}
use native.Mathlib.Omega.{arith}
use Rattle.walk.proofs.Stepping.{lost_bare, lock_missed, lock_last}
use Rattle.walk.proofs.missed.Goals as goal

pub returns-then-misses-limit : goal.returns-then-misses-limit
returns-then-misses-limit c =
    c.no_frame.ensures
    ∙ lost_bare c.args.bytes.now _ _ _
    ∙ lock_missed _ _ _ _ c.requires.room _ c.requires.number c.requires.carrying (omega arith) _ c.locked.ensures

pub returns : goal.returns
returns c =
    c.no_frame-2.ensures
    ∙ lost_bare c.args.bytes.now _ _ _
    ∙ lock_last _ _ _ _ c.requires.room _ c.requires.number c.requires.carrying (omega arith) _ c.hunting.ensures
