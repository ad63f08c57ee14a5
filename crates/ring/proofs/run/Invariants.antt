-- `ring::run` meets its contract. The loop's invariant: the ring, turned on by the places passed, stands for the register after as many bytes.
-- Assumes nothing.
use mathlib.Core.List.{List}
use Prim.Native.Nat.{ℕ, ◌+◌}
use Rattle.ring.specs.Ring.{Turn}
use Rattle.ring.proofs.run.Given as goal

abbrev pub invariant-loop-k : goal.invariant-loop-k
invariant-loop-k l = (u : List ℕ) → Turn u l.bytes l.initial.w l.from → Turn u l.bytes l.w (l.from + l.k)
