use mathlib.Core.Path.{sym}
use Rattle.std.proofs.lemmas.Result.{err_from_is_err_and}
use Rattle.walk.proofs.Limits.{begun_walk, begun_refused}
use Rattle.walk.proofs.begin.Goals as goal

pub returns-in_err-limit_refusal : goal.returns-in_err-limit_refusal
returns-in_err-limit_refusal c =
    let p = err_from_is_err_and c.from_residual.result c.from_residual.ensures.1 in rw (p.1, p.2) (begun_refused _ _ c.in_err-limit_refusal.ensures)

pub returns : goal.returns
returns c = begun_walk _ (sym c.in_ok-limit_refusal.ensures) _ c.hunting.ensures
