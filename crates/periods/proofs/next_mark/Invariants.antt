use mathlib.Core.Path.{◌≡◌}
use Prim.Native.Nat.{◌+◌}
use lib.ListN.{length}
use Rattle.periods.specs.Periods.{NoneStands}
use Rattle.periods.proofs.next_mark.Given as goal

abbrev pub invariant-loop-p : goal.invariant-loop-p
invariant-loop-p l = (l.end + 6143 ≡ length l.bytes) × NoneStands l.bytes l.from l.p
