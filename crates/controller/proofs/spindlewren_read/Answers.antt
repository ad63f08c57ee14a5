use Rattle.controller.proofs.Telling.{refused, accepted}
use borrow.Author.Rules.{rules}
use Rattle.controller.proofs.spindlewren_read.Goals as goal

pub returns-in-Ok : goal.returns-in-Ok
returns-in-Ok c =
    accepted c.args.frame.now c.args.answer.now (search rules) c.read-reading.result c.read-reading.ensures _ c.in-Ok.is _ c.put_answer.ensures

pub returns-in-Err : goal.returns-in-Err
returns-in-Err c =
    rw c.number-in-Err.ensures.0 (refused c.args.frame.now c.args.answer.now (search rules) c.read-reading.result c.read-reading.ensures _ c.in-Err.is)
