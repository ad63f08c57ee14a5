use Rattle.octets.proofs.Storing.{put_short}
use Rattle.block.specs.WalkBytes.{told_bytes}
use Rattle.block.proofs.WalkStored.{told_stored}
use borrow.Author.Rules.{rules}
use Rattle.block.proofs.put_told.Goals as goal

pub returns-then-out-lt23 : goal.returns-then-out-lt23
unfolding told_bytes
returns-then-out-lt23 c = put_short _ _ _ (search rules)

pub returns : goal.returns
returns c =
    told_stored c.args.walk c.args.kind c.args.number c.args.item c.args.fct c.args.level _ c.args.out.now _ _ _ _ (search rules) (search rules) (search rules) (search rules) (search rules)
    (search rules) c.put8.ensures c.put_bytes.ensures c.put8-2.ensures c.put_bytes-2.ensures
