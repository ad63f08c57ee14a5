-- `Stretched::begin` meets its contract: its word is added to the next two bytes.
-- Assumes nothing.
use Rattle.stretch.proofs.Stretching.{begun}
use Rattle.stretch.proofs.Stretched.begin.Goals as goal

pub returns : goal.returns
returns c = λ s e. record { ahead = rw c.from.ensures (begun s c.args.crc c.ranges.crc.fits e) }
