-- `stretch::ones` meets its contract. The loop's invariant: `crc` is the word of the register after the bytes passed.
-- Assumes nothing.
use mathlib.Core.Path.{sym, ap, ◌∙◌}
use borrow.Author.Rules.{rules}
use lib.ListN.{take}
use lib.Seq.{take_all}
use Rattle.sum.specs.Sum.{after, word}
use Rattle.stretch.proofs.Stretching.{byte_on}
use Rattle.stretch.proofs.ones.Goals as goal

pub loop-b-preserved : goal.loop-b-preserved
loop-b-preserved c = λ s e.
    let xs = c.args.bytes.now in
    let at = c.loop-b in
    c.step-crc.ensures (after s (take at.b-index xs)) (at.invariant s e) ∙ ap word (sym (byte_on s xs at.b-index (search rules)))

pub returns : goal.returns
returns c = λ s e. rw (take_all c.loop-b.b-index c.args.bytes.now c.loop-b-test.false) at (c.loop-b.invariant s e)
