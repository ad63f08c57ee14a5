use Rattle.live.specs.Live.{waiting, waiting_at, later}
use Rattle.live.proofs.waiting.Goals as goal

pub returns : goal.returns
unfolding waiting waiting_at later
returns c = rw (c.no_streams.ensures, c.placed.ensures)
