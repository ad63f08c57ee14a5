-- `sum::sum` meets its contract. The loop's invariant: `crc` is the word of the register after the bytes passed.
-- Assumes nothing.
use mathlib.Core.Path.{◌≡◌}
use lib.ListN.{take}
use Rattle.sum.specs.Sum.{ones, after, word}
use Rattle.sum.proofs.sum.Given as goal

abbrev pub invariant-loop-b : goal.invariant-loop-b
invariant-loop-b l = l.crc ≡ word (after ones (take l.b-index l.bytes))
