-- `profiles::tell` meets its contract.
-- Assumes nothing.
use Rattle.std.proofs.Common.{◌∙◌}
use Rattle.std.proofs.lemmas.Result.{err_from_is_err_and}
use Rattle.refusals.proofs.Numbers.{above_zero}
use Rattle.profiles.proofs.ProfileTold.{not_three, refused, told}
use Rattle.profiles.proofs.tell.Goals as goal

pub returns-then-out-ne3 : goal.returns-then-out-ne3
returns-then-out-ne3 c = not_three _ _ c.if-out-ne3.true

pub returns-in_err-judge : goal.returns-in_err-judge
returns-in_err-judge c =
    let p = err_from_is_err_and c.from_residual.result c.from_residual.ensures.1 in
    rw (p.1, p.2) (refused _ _ _ c.if-out-ne3.false c.in_err-judge.ensures (above_zero _))

pub returns : goal.returns
returns c = told _ c.args.out.now _ c.if-out-ne3.false c.in_ok-judge.ensures (c.copy_from_slice.ensures.after ∙ c.found.ensures)
