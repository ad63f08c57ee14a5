-- `field::times` meets its contract.
-- Assumes nothing.
use mathlib.Core.Path.{◌≡◌}
use Prim.Native.Nat.{◌-◌, ◌/◌, ◌^◌}
use Rattle.field.specs.Field.{times_to}
use Rattle.field.proofs.times.Given as goal

abbrev pub invariant-loop-k : goal.invariant-loop-k
invariant-loop-k l = l.t ≡ times_to (8 - l.k) l.a (l.b / 2 ^ l.k)
