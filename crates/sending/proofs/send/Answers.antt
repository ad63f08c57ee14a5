use Rattle.sending.proofs.Stored.{carried}
use Rattle.sending.proofs.send.Goals as goal

pub put_groups-requires : goal.put_groups-requires
put_groups-requires c = carried _ _ c.in_ok-send_refusal.ensures
