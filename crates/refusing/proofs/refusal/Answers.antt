use mathlib.Core.Path.{refl}
use Rattle.std.proofs.lemmas.Result.{err_from_is_err_and}
use Rattle.refusals.proofs.Numbers.{above_zero}
use Rattle.refusing.proofs.Refusing.{head_refuses, body_refuses}
use Rattle.refusing.proofs.refusal.Goals as goal

pub returns-in_err-head : goal.returns-in_err-head
returns-in_err-head c =
    let p = err_from_is_err_and c.from_residual.result c.from_residual.ensures.1 in
    rw (p.1, p.2) (head_refuses _ _ _ _ _ c.wide.ensures c.in_err-head.ensures (above_zero _))

pub returns : goal.returns
returns c = body_refuses _ _ _ _ _ c.wide.ensures c.in_ok-head.ensures refl _ c.body_in.ensures
