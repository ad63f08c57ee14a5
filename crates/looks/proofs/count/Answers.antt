use mathlib.Core.Path.{sym}
use Rattle.std.proofs.lemmas.Result.{err_from_is_err_and}
use Rattle.looks.proofs.Tallies.{answer_refused, answer_tests, positive}
use Rattle.looks.proofs.count.Goals as goal

pub returns-in_err-limit_refusal : goal.returns-in_err-limit_refusal
returns-in_err-limit_refusal c =
    let p = err_from_is_err_and c.from_residual.result c.from_residual.ensures.1 in rw (p.1, p.2) (answer_refused _ _ _ c.in_err-limit_refusal.ensures)

pub tests-requires : goal.tests-requires
tests-requires c = positive _ c.args.bytes.now (sym c.in_ok-limit_refusal.ensures)

pub returns : goal.returns
returns c = answer_tests _ _ (sym c.in_ok-limit_refusal.ensures) _ c.tests.ensures
