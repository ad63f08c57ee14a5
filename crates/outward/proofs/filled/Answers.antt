-- `outward::filled` meets its contract.
-- Assumes nothing.
use Rattle.outward.proofs.Placing.{filled_at}
use Rattle.outward.proofs.filled.Goals as goal

pub returns : goal.returns
returns c = filled_at c.args.information.now _ c.requires c.put_bytes.ensures
