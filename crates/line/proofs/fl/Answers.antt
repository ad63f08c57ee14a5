-- `line::fl` meets its contract.
-- Assumes nothing.
use borrow.Author.Rules.{rules}
use Rattle.line.proofs.FrameOut.{lowest}
use Rattle.line.proofs.fl.Goals as goal

pub returns : goal.returns
returns c = (lowest c.args.bytes.now c.args.at _ c.word.ensures.0, search rules)
