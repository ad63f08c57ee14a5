use lib.ListN.{length}
use Prim.Native.Nat.{suc, ◌-◌}
use Rattle.walk.proofs.Stepping.{Same}
use Rattle.walk.proofs.hunt.Given as goal

abbrev pub invariant-loop-from : goal.invariant-loop-from
invariant-loop-from l = Same l.bytes l.from l.p

abbrev pub decreases-loop-from : goal.decreases-loop-from
decreases-loop-from l = suc (length l.bytes) - l.p
