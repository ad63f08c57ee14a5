use Rattle.std.proofs.Common.{sym, ◌∙◌, ◌<◌, arith}
use Rattle.std.proofs.lemmas.Bool.{ltb-true, ltb-false}
use Rattle.nightlog.specs.Log.{records_in}
use Rattle.std.proofs.lemmas.Result.{err_from_is_err_and}
use Rattle.nightlog.proofs.Cut.{chunk_at, counted}
use Rattle.nightlog.proofs.Judged.{find_odd, find_beyond, find_here}
use Rattle.nightlog.proofs.read.Goals as goal

pub returns-in_err-records : goal.returns-in_err-records
returns-in_err-records c = let p = err_from_is_err_and c.from_residual.result c.from_residual.ensures.1 in rw (p.1, p.2, c.in_err-records.ensures.0) (find_odd _ _ c.in_err-records.ensures.1)

pub returns-in-Some : goal.returns-in-Some
returns-in-Some c =
    let e = c.in_ok-records.ensures in
    let t = c.in-Some.ensures.lookup in
    let h : c.args.i < records_in c.args.log.now = omega (arith, ltb-true _ _ (sym t.0), counted _ _ e.0) in
    rw (c.ok_or.ensures.value, c.entry_in.ensures) (find_here _ _ e.1 h _ (t.1 ∙ rw e.0 (chunk_at _ _ _ _ h)))

pub returns-in-None : goal.returns-in-None
returns-in-None c =
    let e = c.in_ok-records.ensures in
    find_beyond _ _ e.1 (omega (arith, ltb-false _ _ (sym c.in-None.ensures.lookup.0), counted _ _ e.0))
