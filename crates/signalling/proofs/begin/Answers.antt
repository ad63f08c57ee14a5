use Rattle.signalling.proofs.Holding.{begins}
use Rattle.signalling.proofs.begin.Goals as goal

pub returns : goal.returns
returns c = begins _ cc
