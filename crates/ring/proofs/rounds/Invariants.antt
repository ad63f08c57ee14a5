-- `ring::rounds` meets its contract. The loop's invariant: the ring stands for the register after the rows passed.
-- Assumes nothing.
use lib.ListN.{take}
use Rattle.sum.specs.Sum.{Register}
use Rattle.stretch.specs.Stretch.{after_rows}
use Rattle.ring.specs.Ring.{owed, Same}
use Rattle.ring.proofs.rounds.Given as goal

abbrev pub invariant-loop-row : goal.invariant-loop-row
invariant-loop-row l = (r : Register) → Same r (owed l.initial.w) → Same (after_rows r (take l.row-index l.rows)) (owed l.w)
