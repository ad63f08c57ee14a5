-- `ring::add` meets its contract. The loop's invariant: as many bytes as were passed are added.
-- Assumes nothing.
use mathlib.Core.Path.{◌≡◌}
use lib.ListN.{take}
use Rattle.linear.proofs.Linear.{xors}
use Rattle.ring.proofs.add.Given as goal

abbrev pub invariant-loop-k : goal.invariant-loop-k
invariant-loop-k l = l.w ≡ xors l.initial.w (take l.k l.bytes)
