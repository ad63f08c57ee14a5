-- `stretch::ones` meets its contract. The loop's invariant: `crc` is the word of the register after the bytes passed.
-- Assumes nothing.
use mathlib.Core.Path.{◌≡◌}
use lib.ListN.{take}
use Rattle.sum.specs.Sum.{Register, after, word}
use Rattle.stretch.proofs.ones.Given as goal

abbrev pub invariant-loop-b : goal.invariant-loop-b
invariant-loop-b l = (s : Register) → l.start ≡ word s → l.crc ≡ word (after s (take l.b-index l.bytes))
