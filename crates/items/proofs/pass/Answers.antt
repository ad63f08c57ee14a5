use native.Mathlib.Omega.{arith}
use borrow.Author.Rules.{rules}
use Rattle.std.proofs.lemmas.Result.{err_from_is_err_and}
use Rattle.items.proofs.OnePass.{take_rest, midway_start, at_bad, inside, midway_more, pass_done}
use Rattle.items.proofs.pass.Goals as goal

pub loop-at-init : goal.loop-at-init
loop-at-init c = midway_start _

pub returns-in_err-seen : goal.returns-in_err-seen
returns-in_err-seen c =
    let p = err_from_is_err_and c.from_residual.result c.from_residual.ensures.1 in
    rw (p.1, p.2) (c.in_err-seen.ensures.0, at_bad _ _ _ _ c.loop-at.invariant (search rules) (rw take_rest at c.in_err-seen.ensures.1))

pub overflow_add-at : goal.overflow_add-at
overflow_add-at c = omega (arith, inside _ _ _ _ c.loop-at.invariant (search rules) _ (rw take_rest at c.in_ok-seen.ensures))

pub loop-at-preserved : goal.loop-at-preserved
loop-at-preserved c = rw c.again.ensures (midway_more _ _ _ _ c.loop-at.invariant (search rules) _ (rw take_rest at c.in_ok-seen.ensures) _ c.higher-highest.ensures)

pub returns : goal.returns
returns c = pass_done _ _ _ _ c.loop-at.invariant (search rules)
