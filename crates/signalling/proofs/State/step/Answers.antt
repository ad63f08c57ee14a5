use Rattle.signalling.proofs.Holding.{steps_on}
use Rattle.signalling.proofs.State.step.Goals as goal

pub returns : goal.returns
returns c = steps_on _ _ _ _ _ _ c.if-bytes-lt1538.false c.feed.ensures
