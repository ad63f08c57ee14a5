use Rattle.relay.proofs.ReadBack.{back_read, back_refused}
use borrow.Author.Rules.{rules}
use Rattle.relay.proofs.write_read.Goals as goal

pub returns-in-Ok : goal.returns-in-Ok
returns-in-Ok c = back_read _ _ _ _ c.in-Ok.ensures (search rules) _ c.read.ensures

pub returns-in-Err : goal.returns-in-Err
returns-in-Err c = back_refused _ _ _ _ _ c.in-Err.ensures _ c.no_streams.ensures
