use Prim.Native.Nat.{suc, ◌-◌}
use Rattle.why.proofs.Asking.{Reached}
use Rattle.why.proofs.reason_at.Given as goal

abbrev pub invariant-loop-reason : goal.invariant-loop-reason
invariant-loop-reason l = Reached l.bytes l.limit l.place l.walk

abbrev pub decreases-loop-reason : goal.decreases-loop-reason
decreases-loop-reason l = suc l.place - l.walk.position.place
