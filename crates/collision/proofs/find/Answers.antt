-- `collision::find` meets its contract.
-- Assumes nothing.
use mathlib.Core.Path.{◌∙◌}
use Rattle.std.proofs.Common.{refl}
use Rattle.collision.specs.Collisions.{two_by}
use Rattle.collision.proofs.find.Goals as goal

pub returns-in-Ok : goal.returns-in-Ok
unfolding two_by
returns-in-Ok c = record { number = c.in-Ok.ensures; two = rw (← c.in-Ok.ensures) refl }

pub returns-in-Err : goal.returns-in-Err
returns-in-Err c = record { number = c.in-Err.ensures; two = c.two_by.ensures ∙ (rw (c.in-Err.ensures, c.fc-fc.ensures.nst)) }
