-- `collision::first_from` meets its contract.
-- Assumes nothing.
use mathlib.Core.Path.{refl}
use Rattle.collision.proofs.FirstFound.{of_one, found, not_yet, none_left, one_told}
use Rattle.collision.proofs.first_from.Goals as goal

pub loop-i-init : goal.loop-i-init
loop-i-init g c = λ t h. (c.requires.room, refl)

pub returns-then-test : goal.returns-then-test
returns-then-test g c = λ t h.
    found (of_one t c.args.frame.now) _ _ _ (c.loop-i.invariant t h) c.loop-i-test.true
    (one_told t c.args.frame.now c.loop-i.i _ c.placed.result _ _ c.placed.ensures c.from.ensures (h _ _ c.test.ensures) c.if-test.true)

pub loop-i-preserved : goal.loop-i-preserved
loop-i-preserved g c = λ t h.
    not_yet (of_one t c.args.frame.now) _ _ _ (c.loop-i.invariant t h) c.loop-i-test.true
    (one_told t c.args.frame.now c.loop-i.i _ c.placed.result _ _ c.placed.ensures c.from.ensures (h _ _ c.test.ensures) c.if-test.false)

pub returns : goal.returns
returns g c = λ t h. none_left (of_one t c.args.frame.now) _ _ _ (c.loop-i.invariant t h) c.loop-i-test.false
