use mathlib.Core.Path.{◌∙◌}
use Prim.Native.Nat.{ℕ}
use Rattle.std.proofs.lemmas.Result.{err_from_is_err_and}
use Rattle.refusals.proofs.Numbers.{above_zero}
use Rattle.outward.proofs.Placing.{refused, most, lengths_of}
use Rattle.outward.proofs.CodedOut.{rows, asked_for, sent_coded}
use Rattle.outward.proofs.out_coded.Goals as goal

pub returns-in_err-fits : goal.returns-in_err-fits
returns-in_err-fits c =
    let a = c.args in
    let p = err_from_is_err_and c.from_residual.result c.from_residual.ensures.1 in
    rw (p.1, p.2) (refused a.fourteen a.information.now a.management.now a.supervision.now a.synchronising.now a.signalling.now (rows a.fourteen a.information.now a.management.now a.supervision.now a.synchronising.now a.signalling.now a.output.now) a.output.now _ ((rw c.width.ensures.0 at c.in_err-fits.ensures) ∙ asked_for a.fourteen a.information.now a.management.now a.supervision.now a.synchronising.now a.signalling.now a.output.now) (above_zero _))

pub coded_array-array-requires : goal.coded_array-array-requires
coded_array-array-requires c =
    let a = c.args in
    let e = (rw c.width.ensures.0 at c.in_ok-fits.ensures) ∙ asked_for a.fourteen a.information.now a.management.now a.supervision.now a.synchronising.now a.signalling.now a.output.now in
    let is : (k : ℕ) → _ = λ k. lengths_of a.fourteen a.information.now a.management.now a.supervision.now a.synchronising.now a.signalling.now (rows a.fourteen a.information.now a.management.now a.supervision.now a.synchronising.now a.signalling.now a.output.now) a.output.now k e in
    (most a.fourteen a.information.now a.management.now a.supervision.now a.synchronising.now a.signalling.now (rows a.fourteen a.information.now a.management.now a.supervision.now a.synchronising.now a.signalling.now a.output.now) a.output.now e, is 1, is 2)

pub put_output-requires : goal.put_output-requires
put_output-requires c =
    let a = c.args in
    let e = (rw c.width.ensures.0 at c.in_ok-fits.ensures) ∙ asked_for a.fourteen a.information.now a.management.now a.supervision.now a.synchronising.now a.signalling.now a.output.now in
    let is : (k : ℕ) → _ = λ k. lengths_of a.fourteen a.information.now a.management.now a.supervision.now a.synchronising.now a.signalling.now (rows a.fourteen a.information.now a.management.now a.supervision.now a.synchronising.now a.signalling.now a.output.now) a.output.now k e in
    (is 3, is 4, is 0)

pub returns : goal.returns
returns c =
    let a = c.args in
    sent_coded a.fourteen a.information.now a.management.now a.supervision.now a.synchronising.now a.signalling.now a.output.now _ _ (rw c.width.ensures.0 at c.in_ok-fits.ensures) c.coded_array-array.ensures c.put_output.ensures
