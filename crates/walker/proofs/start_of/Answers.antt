use Rattle.walker.proofs.Beginnings.{begun_state, begun_outside}
use Rattle.walker.proofs.start_of.Goals as goal

pub returns-in-Ok : goal.returns-in-Ok
returns-in-Ok c = begun_state _ _ c.in-Ok.ensures

pub returns-in-Err : goal.returns-in-Err
returns-in-Err c = begun_outside _ _ c.in-Err.ensures _ c.hunting.ensures
