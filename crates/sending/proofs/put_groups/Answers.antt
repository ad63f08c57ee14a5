use Rattle.std.proofs.Common.{refl}
use Rattle.sending.proofs.Stored.{rest_from, all_put}
use Rattle.sending.proofs.put_groups.Goals as goal

pub returns : goal.returns
returns c = all_put _ _ _ _ _ _ _ _ refl c.requires (rest_from c.args.m.now _) c.put_start.ensures c.put_continuations.ensures c.put_end.ensures
