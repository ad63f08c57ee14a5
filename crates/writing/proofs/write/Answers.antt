use mathlib.Core.Path.{refl}
use Rattle.std.proofs.lemmas.Result.{err_from_is_err_and}
use Rattle.refusals.proofs.Numbers.{above_zero}
use Rattle.writing.proofs.Outcome.{ready, write_refused, write_done}
use Rattle.writing.proofs.write.Goals as goal

pub returns-in_err-refusal : goal.returns-in_err-refusal
returns-in_err-refusal c =
    let p = err_from_is_err_and c.from_residual.result c.from_residual.ensures.1 in
    rw (p.1, p.2) (write_refused _ _ _ _ c.in_err-refusal.ensures (above_zero _))

pub fill-requires : goal.fill-requires
fill-requires c = ready _ _ _ _ c.in_ok-refusal.ensures refl

pub returns : goal.returns
returns c = write_done _ _ _ _ c.in_ok-refusal.ensures refl _ c.fill.ensures
