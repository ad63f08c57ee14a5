use Prim.Native.Nat.{ℕ}
use Rattle.std.proofs.lemmas.Result.{err_from_is_err_and}
use Rattle.refusals.proofs.Numbers.{above_zero}
use Rattle.outward.proofs.Placing.{refused, most, held, lengths_of, sent}
use Rattle.outward.proofs.out.Goals as goal

pub returns-in_err-fits : goal.returns-in_err-fits
returns-in_err-fits c =
    let a = c.args in
    let p = err_from_is_err_and c.from_residual.result c.from_residual.ensures.1 in
    rw (p.1, p.2) (refused a.fourteen a.information.now a.management.now a.supervision.now a.synchronising.now a.signalling.now a.check.now a.output.now _ c.in_err-fits.ensures (above_zero _))

pub coding_array-array-requires : goal.coding_array-array-requires
coding_array-array-requires c =
    let a = c.args in
    let e = c.in_ok-fits.ensures in
    (held a.fourteen a.information.now a.management.now a.supervision.now a.synchronising.now a.signalling.now a.check.now a.output.now _ e c.width-w.ensures.0 c.width-w.ensures.1, most a.fourteen a.information.now a.management.now a.supervision.now a.synchronising.now a.signalling.now a.check.now a.output.now e)

pub put_output-requires : goal.put_output-requires
put_output-requires c =
    let a = c.args in
    let is : (k : ℕ) → _ = λ k. lengths_of a.fourteen a.information.now a.management.now a.supervision.now a.synchronising.now a.signalling.now a.check.now a.output.now k c.in_ok-fits.ensures in
    (is 3, is 4, is 0)

pub returns : goal.returns
returns c =
    let a = c.args in
    sent a.fourteen a.information.now a.management.now a.supervision.now a.synchronising.now a.signalling.now a.check.now a.output.now _ _ c.in_ok-fits.ensures (simp (← c.width-w.ensures.0) c.coding_array-array.ensures) c.put_output.ensures
