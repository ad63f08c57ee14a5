use Rattle.std.proofs.Common.{refl, ◌∙◌, ap}
use Rattle.octets.specs.Stores.{put}
use Rattle.signalling.proofs.GroupTaken.{mid_four, takes_end, not_ended}
use Rattle.signalling.proofs.Opened.take_end.Goals as goal

pub returns-then-self-2 : goal.returns-then-self-2
returns-then-self-2 c =
    takes_end c.if-self.true c.if-self-2.true c.from.ensures c.ended.ensures (c.put_bytes.ensures ∙ ap (put c.args.bytes.now _) (mid_four c.args.g.now))

pub returns : goal.returns
returns c = not_ended c.else-self.either c.not_due.ensures refl
