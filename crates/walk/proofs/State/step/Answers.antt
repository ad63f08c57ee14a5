use borrow.Author.Rules.{rules}
use Rattle.walk.proofs.Numbered.{ok_number, err_number}
use Rattle.walk.proofs.Limits.{outside_step, inside_step}
use Rattle.walk.proofs.State.step.Goals as goal

pub returns-then-is_err : goal.returns-then-is_err
returns-then-is_err c =
    outside_step c.args.bytes.now c.args.self _ c.limit_refusal.ensures (err_number c.limit_refusal.result (search rules)) _ c.no_streams.ensures

pub returns : goal.returns
returns c =
    inside_step c.args.bytes.now c.args.self _ c.limit_refusal.ensures (ok_number c.limit_refusal.result (search rules)) _ c.within-moved.ensures
