-- `stretch::words_on` meets its contract. The loop's invariant: `crc` is the word of the register after the words passed.
-- Assumes nothing.
use mathlib.Core.Path.{sym, ap, ◌∙◌}
use borrow.Author.Rules.{rules}
use lib.ListN.{take}
use lib.Seq.{take_all}
use Rattle.sum.specs.Sum.{word}
use Rattle.stretch.specs.Stretch.{after_rows}
use Rattle.stretch.proofs.Stretching.{row_more}
use Rattle.stretch.proofs.words_on.Goals as goal

pub loop-w-preserved : goal.loop-w-preserved
loop-w-preserved c = λ s e.
    let ws = c.args.words.now in
    let at = c.loop-w in
    let r = after_rows s (take at.w-index ws) in
    c.word_on-crc.ensures r (at.invariant s e) ∙ ap word (c.whole.ensures r ∙ sym (row_more s ws at.w-index (search rules)))

pub returns : goal.returns
returns c = λ s e. rw (take_all c.loop-w.w-index c.args.words.now c.loop-w-test.false) at (c.loop-w.invariant s e)
