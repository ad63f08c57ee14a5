use Rattle.std.proofs.Common.{rules}
use Rattle.std.proofs.lemmas.Result.{err_from_is_err_and}
use Rattle.refusals.proofs.Numbers.{above_zero}
use Rattle.judging.proofs.Judging.{head_judges, body_judges}
use Rattle.judging.proofs.judge.Goals as goal

pub returns-in_err-head_in : goal.returns-in_err-head_in
returns-in_err-head_in c = let p = err_from_is_err_and c.from_residual.result c.from_residual.ensures.1 in rw (p.1, p.2) (head_judges c.args.frame.now (search rules) _ c.in_err-head_in.ensures (above_zero _))

pub returns : goal.returns
returns c = body_judges c.args.frame.now (search rules) _ _ c.in_ok-head_in.ensures (search rules) c.body_in.ensures
