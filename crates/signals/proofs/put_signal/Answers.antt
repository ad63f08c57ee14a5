use Rattle.std.proofs.Common.{rules}
use Rattle.signals.proofs.SignalBack.{left_by}
use Rattle.signals.proofs.put_signal.Goals as goal

pub returns : goal.returns
returns c =
    left_by c.args.out.now c.item_values-kind.ensures (search rules) c.group_bytes.ensures c.message_bytes.ensures c.requires c.put_bytes.ensures c.put_bytes-2.ensures c.put8.ensures
