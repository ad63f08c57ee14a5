use Rattle.std.proofs.Common.{refl, ◌∙◌, ap}
use Rattle.octets.specs.Stores.{put}
use Rattle.signalling.proofs.GroupTaken.{last_six, continues, not_continued}
use Rattle.signalling.proofs.Opened.take_continuation.Goals as goal

pub returns-then-self-2 : goal.returns-then-self-2
returns-then-self-2 c =
    continues c.if-self.true c.if-self-2.true c.from.ensures c.more-crc.ensures (c.put_bytes.ensures ∙ ap (put c.args.bytes.now _) (last_six c.args.g.now c.told-g))

pub returns : goal.returns
returns c = not_continued c.else-self.either c.not_due.ensures refl
