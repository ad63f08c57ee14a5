use borrow.Author.Rules.{rules}
use lib.ListN.{replicate}
use Rattle.code.proofs.CodeTurns.{remainder_more}
use Rattle.code.proofs.remainder.Goals as goal

pub loop-b-preserved : goal.loop-b-preserved
loop-b-preserved g c q k m =
    remainder_more q (replicate g.row.R 0) c.args.info.now _ _ c.loop-b.b-index (search rules) (c.loop-b.invariant q k m) (c.divide-rest.ensures q k m)
