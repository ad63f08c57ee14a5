use Prim.Native.Nat.{suc, ◌-◌}
use lib.ListN.{length}
use Rattle.looks.proofs.Tallies.{Sofar}
use Rattle.looks.proofs.tests.Given as goal

abbrev pub invariant-loop-position : goal.invariant-loop-position
invariant-loop-position l = Sofar l.limit l.bytes l.position l.seen

abbrev pub decreases-loop-position : goal.decreases-loop-position
decreases-loop-position l = suc (length l.bytes) - l.position.place
