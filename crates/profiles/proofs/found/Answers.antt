-- `profiles::found` meets its contract.
-- Assumes nothing.
use mathlib.Core.Path.{◌∙◌}
use Rattle.profiles.proofs.ProfileTold.{three}
use Rattle.profiles.proofs.found.Goals as goal

pub returns-in-Ok : goal.returns-in-Ok
returns-in-Ok c = let k = c.in-Ok.ensures in three _ _ _ _ k.number k.two

pub returns-in-Err : goal.returns-in-Err
returns-in-Err c = let k = c.in-Err.ensures in three _ _ _ _ (c.number.ensures.0 ∙ k.number) k.two
