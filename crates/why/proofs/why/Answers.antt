use borrow.Author.Rules.{rules}
use Rattle.std.proofs.lemmas.Result.{err_from_is_err_and}
use Rattle.why.proofs.Asking.{not_begun, outside, asked, answered}
use Rattle.why.proofs.why.Goals as goal

pub returns-in_err-start : goal.returns-in_err-start
returns-in_err-start c =
    let p = err_from_is_err_and c.from_residual.result c.from_residual.ensures.1 in rw (p.1, p.2) (not_begun _ _ _ _ c.in_err-start.ensures)

pub returns-then-not-whole : goal.returns-then-not-whole
returns-then-not-whole c = outside _ _ _ _ c.in_ok-start.ensures (search rules)

pub reason_at-requires : goal.reason_at-requires
reason_at-requires c = asked _ _ _ _ c.in_ok-start.ensures (search rules)

pub returns : goal.returns
returns c = answered _ _ _ _ c.in_ok-start.ensures (search rules) _ c.reason_at.ensures
