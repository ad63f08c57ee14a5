use Rattle.signalling.proofs.GroupTaken.{steps_out, steps_join, steps_whole}
use Rattle.signalling.proofs.State.feed.Goals as goal

pub returns-then-phase-group : goal.returns-then-phase-group
returns-then-phase-group c = steps_out _ _ _ _ c.if-phase-group.true c.out_of_turn-item.ensures c.afresh-group.ensures

pub returns-then-phase-ne3 : goal.returns-then-phase-ne3
returns-then-phase-ne3 c = steps_join _ _ _ _ c.if-phase-group.false c.if-phase-ne3.true c.join-next.ensures

pub returns : goal.returns
returns c = steps_whole _ _ _ _ c.if-phase-group.false c.if-phase-ne3.false c.whole.ensures c.take-taken.ensures c.no_group.ensures
