-- `stretch::turns` meets its contract. The loop's invariant: the stretched register stands for the one after the words passed.
-- Assumes nothing.
use mathlib.Core.Path.{sym}
use borrow.Author.Rules.{rules}
use lib.ListN.{take}
use lib.Seq.{take_all}
use Rattle.stretch.specs.Stretch.{after_rows}
use Rattle.stretch.proofs.Stretching.{row_more, stands_on}
use Rattle.stretch.proofs.turns.Goals as goal

pub loop-w-preserved : goal.loop-w-preserved
loop-w-preserved c = λ q e.
    let ws = c.args.words.now in
    let at = c.loop-w in
    stands_on (sym (row_more q ws at.w-index (search rules))) (c.turn-s.ensures (after_rows q (take at.w-index ws)) (at.invariant q e))

pub returns : goal.returns
returns c = λ q e. c.close.ensures (after_rows q c.args.words.now) (rw (take_all c.loop-w.w-index c.args.words.now c.loop-w-test.false) at (c.loop-w.invariant q e))
