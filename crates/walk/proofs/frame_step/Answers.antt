use Rattle.walk.proofs.Stepping.{frame_read, not-refused}
use Rattle.walk.proofs.frame_step.Goals as goal

pub returns-in-Ok : goal.returns-in-Ok
returns-in-Ok c = frame_read _ _ c.read_at-reading.result _ _ _ c.read_at-reading.ensures c.in-Ok.is c.locked-position.ensures

pub returns-in-Err : goal.returns-in-Err
returns-in-Err c =
    absurd (not-refused c.args.bytes.now c.args.p c.read_at-reading.result _ c.read_at-reading.ensures c.in-Err.is c.requires.1)
