-- `ring::round` meets its contract: three runs.
-- Assumes nothing.
use borrow.Author.Rules.{rules}
use Rattle.ring.proofs.Turning.{turn_none, turn_all}
use Rattle.ring.proofs.round.Goals as goal

pub returns : goal.returns
returns c =
    let w = c.args.w.now in
    let bytes = c.args.bytes.now in
    turn_all w bytes c.run-3.new.w (search rules) (search rules) (c.run-3.ensures w (c.run-2.ensures w (c.run.ensures w (turn_none w bytes))))
