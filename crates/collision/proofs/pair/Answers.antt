-- `collision::pair` meets its contract.
-- Assumes nothing.
use borrow.Author.Rules.{rules}
use Rattle.collision.proofs.FirstFound.{later_told, pair_begins, pair_found, pair_not_yet, no_pair}
use Rattle.collision.proofs.pair.Goals as goal

pub loop-i-init : goal.loop-i-init
loop-i-init g c = λ t h. pair_begins t _ _

pub returns-then-j-n : goal.returns-then-j-n
returns-then-j-n g c = λ t h.
    let e = c.first_from-j.ensures (t c.placed-mine.result) (λ p r k. search rules) in
    pair_found t _ _ _ (c.loop-i.invariant t h) _ c.loop-i-test.true (later_told t _ _ _ _ _ _ c.placed-mine.ensures c.from.ensures e) c.if-j-n.true

pub loop-i-preserved : goal.loop-i-preserved
loop-i-preserved g c = λ t h.
    let e = c.first_from-j.ensures (t c.placed-mine.result) (λ p r k. search rules) in
    pair_not_yet t _ _ _ (c.loop-i.invariant t h) _ c.loop-i-test.true (later_told t _ _ _ _ _ _ c.placed-mine.ensures c.from.ensures e) c.if-j-n.false

pub returns : goal.returns
returns g c = λ t h. no_pair t _ _ _ (c.loop-i.invariant t h) c.loop-i-test.false
