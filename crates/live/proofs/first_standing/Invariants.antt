use lib.ListN.{length}
use Prim.Native.Nat.{suc, ◌-◌}
use Rattle.walk.specs.Records.{NoneStands}
use Rattle.live.proofs.first_standing.Given as goal

abbrev pub invariant-loop-from : goal.invariant-loop-from
invariant-loop-from l = NoneStands l.window l.from l.p

abbrev pub decreases-loop-from : goal.decreases-loop-from
decreases-loop-from l = suc (length l.window) - l.p
