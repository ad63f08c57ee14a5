use Rattle.std.proofs.lemmas.Result.{err_from_is_err_and}
use Rattle.nightlog.proofs.Judged.{odd, bad, good}
use Rattle.nightlog.proofs.judge.Goals as goal

pub returns-in_err-records : goal.returns-in_err-records
returns-in_err-records c = let p = err_from_is_err_and c.from_residual.result c.from_residual.ensures.1 in rw (p.1, p.2, c.in_err-records.ensures.0) (odd _ c.in_err-records.ensures.1)

pub returns-in-Some : goal.returns-in-Some
returns-in-Some c = let e = c.in_ok-records.ensures in bad _ e.1 _ (rw e.0 at c.in-Some.ensures)

pub returns-in-None : goal.returns-in-None
returns-in-None c = let e = c.in_ok-records.ensures in good _ e.1 (rw e.0 at c.in-None.ensures)
