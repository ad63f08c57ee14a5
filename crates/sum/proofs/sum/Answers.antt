-- `sum::sum` meets its contract. The loop's invariant: `crc` is the word of the register after the bytes passed.
-- Assumes nothing.
use mathlib.Core.Path.{sym, ◌∙◌}
use Prim.Native.Nat.{◌<◌}
use native.Mathlib.Numerals.{add-one}
use borrow.Author.Rules.{rules}
use mathlib.Core.List.{[], ◌∷◌}
use lib.ListN.{length, take, get_or}
use lib.Seq.{take-suc, take_all}
use Rattle.sum.specs.Sum.{ones, after, sum_of}
use Rattle.sum.proofs.SumLaws.{after_append, inverse}
use Rattle.sum.proofs.sum.Goals as goal

pub loop-b-preserved : goal.loop-b-preserved
loop-b-preserved c = let xs = c.args.bytes.now in
    let i = c.loop-b.b-index in
    let h : i < length xs = search rules in
    c.halves-crc.ensures (after ones (take i xs)) c.loop-b.invariant
    ∙ rw (add-one, take-suc xs i 0, after_append ones (take i xs) (get_or xs i 0 ∷ []))

pub returns : goal.returns
unfolding sum_of
returns c = let r = after ones c.args.bytes.now in
    rw (c.loop-b.invariant, take_all c.loop-b.b-index _ c.loop-b-test.false) (sym (inverse r))
