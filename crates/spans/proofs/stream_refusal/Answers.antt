use mathlib.Core.Path.{refl}
use native.Mathlib.Omega.{arith}
use Rattle.std.proofs.lemmas.Result.{err_from_is_err_and}
use Rattle.frame.proofs.Accepting.{request_refused, request_beyond, request_within}
use Rattle.refusals.proofs.Numbers.{above_zero}
use Rattle.spans.proofs.stream_refusal.Goals as goal

pub returns-in_err-fic_refusal : goal.returns-in_err-fic_refusal
returns-in_err-fic_refusal c =
    let p = err_from_is_err_and c.from_residual.result c.from_residual.ensures.1 in
    rw (p.1, p.2) (request_refused _ _ _ c.in_err-fic_refusal.ensures (above_zero _))

pub returns-then-fc-i : goal.returns-then-fc-i
returns-then-fc-i c = request_beyond _ _ _ c.in_ok-fic_refusal.ensures refl (omega arith)

pub returns : goal.returns
returns c = request_within _ _ _ c.in_ok-fic_refusal.ensures refl (omega arith)
