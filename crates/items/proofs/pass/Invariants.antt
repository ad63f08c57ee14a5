use Prim.Native.Nat.{◌-◌}
use lib.ListN.{length}
use Rattle.items.proofs.OnePass.{Midway}
use Rattle.items.proofs.pass.Given as goal

abbrev pub invariant-loop-at : goal.invariant-loop-at
invariant-loop-at l = Midway l.packet l.met l.highest l.at

abbrev pub decreases-loop-at : goal.decreases-loop-at
decreases-loop-at l = length l.packet - l.at
