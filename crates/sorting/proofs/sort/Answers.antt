use borrow.Author.Rules.{rules}
use Rattle.sorting.proofs.OnceMet.{placed, none_sent}
use Rattle.sorting.proofs.sort.Goals as goal

pub returns : goal.returns
returns c =
    let y = c.in_ok-notes.ensures in
    record { number = c.in_ok-judge.ensures; placed = placed _ _ _ y.noted; high = y.high }

pub returns-then-is_empty : goal.returns-then-is_empty
returns-then-is_empty c = record { number = none_sent c.args.packet.now (search rules); placed = tt; high = tt }
