use Rattle.live.specs.Live.{over_at}
use Rattle.live.proofs.over.Goals as goal

pub returns : goal.returns
unfolding over_at
returns c = cc
