-- `ring::rounds` meets its contract. The loop's invariant: the ring stands for the register after the rows passed.
-- Assumes nothing.
use borrow.Author.Rules.{rules}
use lib.ListN.{take}
use Rattle.stretch.specs.Stretch.{after_rows}
use Rattle.stretch.proofs.Stretching.{row_more}
use Rattle.ring.proofs.rounds.Goals as goal

pub loop-row-preserved : goal.loop-row-preserved
loop-row-preserved c = λ r s.
    let at = c.loop-row in
    let rows = c.args.rows.now in
    rw (row_more r rows at.row-index (search rules)) (c.round.ensures (after_rows r (take at.row-index rows)) (at.invariant r s))
