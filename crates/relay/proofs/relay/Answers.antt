use Rattle.std.proofs.lemmas.Result.{err_from_is_err_and}
use Rattle.reading.proofs.Answered.{got_number, got_refused, got_nonzero}
use Rattle.relay.proofs.Hop.{got_fields, relay_refused}
use mathlib.Core.Path.{◌∙◌}
use Rattle.relay.proofs.relay.Goals as goal

pub returns-in_err-header : goal.returns-in_err-header
returns-in_err-header c =
    let f = c.args.frame.now in
    let read = c.read-reading in
    let e = c.in_err-header.was in
    let p = err_from_is_err_and c.from_residual.result c.from_residual.ensures.1 in
    rw (p.1, p.2) (relay_refused f _ _ (got_refused f read.result read.ensures _ e) (got_nonzero f read.result read.ensures _ e))

pub again-requires : goal.again-requires
again-requires c =
    let read = c.read-reading in
    let f = c.args.frame.now in
    let e = c.in_ok-header.was in
    (got_number f read.result read.ensures _ e, c.fields.ensures ∙ got_fields f read.result read.ensures _ e)
