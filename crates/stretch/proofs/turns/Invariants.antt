-- `stretch::turns` meets its contract. The loop's invariant: the stretched register stands for the one after the words passed.
-- Assumes nothing.
use mathlib.Core.Path.{◌≡◌}
use lib.ListN.{take}
use Rattle.sum.specs.Sum.{Register, word}
use Rattle.stretch.specs.Stretch.{after_rows, Stands}
use Rattle.stretch.proofs.turns.Given as goal

abbrev pub invariant-loop-w : goal.invariant-loop-w
invariant-loop-w l = (q : Register) → l.start ≡ word q → Stands (after_rows q (take l.w-index l.words)) l.s
