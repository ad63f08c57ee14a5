-- `stretch::words_on` meets its contract. The loop's invariant: `crc` is the word of the register after the words passed.
-- Assumes nothing.
use mathlib.Core.Path.{◌≡◌}
use lib.ListN.{take}
use Rattle.sum.specs.Sum.{Register, word}
use Rattle.stretch.specs.Stretch.{after_rows}
use Rattle.stretch.proofs.words_on.Given as goal

abbrev pub invariant-loop-w : goal.invariant-loop-w
invariant-loop-w l = (s : Register) → l.start ≡ word s → l.crc ≡ word (after_rows s (take l.w-index l.words))
