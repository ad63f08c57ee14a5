use Rattle.std.proofs.lemmas.Result.{err_from_is_err_and}
use Rattle.refusals.proofs.Numbers.{above_zero}
use Rattle.array.proofs.PartSizes.{one_of_six}
use Rattle.outward.proofs.Placing.{length_first}
use Rattle.outward.proofs.fits.Goals as goal

pub returns-in_err-lengths : goal.returns-in_err-lengths
returns-in_err-lengths c =
    let p = err_from_is_err_and c.from_residual.result c.from_residual.ensures.1 in
    let e = c.in_err-lengths.ensures in
    rw (p.1, p.2) (length_first _ _ _ _ e (one_of_six _ _ _ _ _ _ _ _ e (above_zero _)))
