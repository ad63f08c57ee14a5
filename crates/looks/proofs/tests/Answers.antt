use borrow.Author.Rules.{rules}
use native.Mathlib.Omega.{arith}
use Rattle.looks.proofs.Tallies.{begins, ends, few_put}
use Rattle.looks.proofs.tests.Goals as goal

pub loop-position-init : goal.loop-position-init
loop-position-init c = rw c.hunting-position.ensures (begins _ _)

pub overflow_add-seen : goal.overflow_add-seen
overflow_add-seen c =
    let g = c.well_formed.0 in
    let f = few_put _ _ _ _ c.loop-position.invariant _ c.advance-tally.ensures in
    omega arith

pub returns : goal.returns
returns c = ends _ _ _ _ c.loop-position.invariant (search rules)
