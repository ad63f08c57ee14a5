use Rattle.std.proofs.Common.{◌∙◌, ap}
use Rattle.octets.specs.Stores.{put}
use Rattle.signalling.proofs.GroupTaken.{last_four, starts_open, starts}
use Rattle.signalling.proofs.Opened.take_start.Goals as goal

pub returns-then-self : goal.returns-then-self
returns-then-self c = starts_open c.if-self.true c.more-crc.ensures (c.put_bytes.ensures ∙ ap (put c.args.bytes.now 0) (last_four c.args.g.now c.told-g))

pub returns : goal.returns
returns c = starts c.if-self.false c.more-crc.ensures (c.put_bytes.ensures ∙ ap (put c.args.bytes.now 0) (last_four c.args.g.now c.told-g))
