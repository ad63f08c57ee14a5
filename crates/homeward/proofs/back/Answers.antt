use mathlib.Core.Path.{ap, ◌∙◌}
use Rattle.array.specs.OutputArray.{g_bytes_of}
use Rattle.homeward.specs.BackClauses.{interleaving_of}
use borrow.Author.Rules.{rules}
use lib.Dec.{lit<}
use Rattle.std.proofs.lemmas.Result.{err_from_is_err_and}
use Rattle.refusals.proofs.Numbers.{above_zero}
use Rattle.homeward.proofs.Unplacing.{refused_length, refused_output, refused_information, lengths_of, room, returned}
use Rattle.homeward.proofs.back.Goals as goal

pub returns-in_default : goal.returns-in_default
returns-in_default c =
    let a = c.args in
    refused_output a.fourteen a.output.now a.information.now a.management.now a.supervision.now a.synchronising.now a.signalling.now a.check.now (search rules)

pub returns-in_err-lengths : goal.returns-in_err-lengths
returns-in_err-lengths c =
    let a = c.args in
    let p = err_from_is_err_and c.from_residual.result c.from_residual.ensures.1 in
    rw (p.1, p.2) (refused_length a.fourteen a.output.now a.information.now a.management.now a.supervision.now a.synchronising.now a.signalling.now a.check.now _ (rw c.in-Ok.ensures.1.long c.in_err-lengths.ensures) (above_zero _))

pub returns-then-information-w : goal.returns-then-information-w
returns-then-information-w c =
    let a = c.args in
    refused_information a.fourteen a.output.now a.information.now a.management.now a.supervision.now a.synchronising.now a.signalling.now a.check.now _ (rw c.in-Ok.ensures.1.long c.in_ok-lengths.ensures) c.width-w.ensures.0 c.if-information-w.true

pub put_g_bytes-requires : goal.put_g_bytes-requires
put_g_bytes-requires c =
    let a = c.args in
    (lit< tt, lengths_of a.fourteen a.output.now a.information.now a.management.now a.supervision.now a.synchronising.now a.signalling.now a.check.now 3 (rw c.in-Ok.ensures.1.long c.in_ok-lengths.ensures))

pub put_g_bytes-requires-2 : goal.put_g_bytes-requires-2
put_g_bytes-requires-2 c =
    let a = c.args in
    (lit< tt, lengths_of a.fourteen a.output.now a.information.now a.management.now a.supervision.now a.synchronising.now a.signalling.now a.check.now 4 (rw c.in-Ok.ensures.1.long c.in_ok-lengths.ensures))

pub put_parts-requires : goal.put_parts-requires
put_parts-requires c =
    let a = c.args in
    room a.fourteen a.output.now a.information.now a.management.now a.supervision.now a.synchronising.now a.signalling.now a.check.now _ (rw c.in-Ok.ensures.1.long c.in_ok-lengths.ensures) c.width-w.ensures.0 c.width-w.ensures.1 c.if-information-w.false

pub returns : goal.returns
returns c =
    let a = c.args in
    let same = c.in-Ok.ensures.1.same in
    returned a.fourteen a.output.now a.information.now a.management.now a.supervision.now a.synchronising.now a.signalling.now a.check.now _ _ _ _ _ _ _ _ (rw c.in-Ok.ensures.1.long c.in_ok-lengths.ensures) c.width-w.ensures.0 c.if-information-w.false (c.put_g_bytes.ensures ∙ ap (g_bytes_of 0) same) (c.put_g_bytes-2.ensures ∙ ap (g_bytes_of 16) same) (c.interleaving.ensures ∙ ap interleaving_of same) c.put_parts.ensures
