-- `Stretched::close` meets its contract: four words, each with what is to be added to it.
-- Assumes nothing.
use mathlib.Core.Path.{◌≡◌, sym, ap, ◌∙◌}
use borrow.Author.Rules.{rules}
use lib.Bits.{bit_xor}
use lib.ListN.{length}
use Rattle.sum.specs.Sum.{word}
use Rattle.stretch.specs.Stretch.{after8, blank}
use Rattle.stretch.proofs.Stretching.{closed, four_rows}
use Rattle.stretch.proofs.Stretched.close.Goals as goal

pub returns : goal.returns
returns c = λ q h.
    let s = c.args.self in
    let ws = c.args.last.now in
    let n : length ws ≡ 4 = search rules in
    let x = c.whole.result in
    let y = c.whole-2.result in
    let z = c.whole-3.result in
    let u = c.whole-4.result in
    let first = after8 blank (bit_xor s.a x) in
    let second = after8 first (bit_xor s.b y) in
    let third = after8 second (bit_xor s.c z) in
    c.word_on.ensures third (c.word_on-third.ensures second (c.word_on-second.ensures first c.divide-first.ensures))
    ∙ ap word (sym (closed q s h x y z u) ∙ four_rows q ws x y z u n c.whole.ensures c.whole-2.ensures c.whole-3.ensures c.whole-4.ensures)
