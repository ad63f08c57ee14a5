use mathlib.Core.Path.{◌≡◌}
use Rattle.walk.specs.Records.{state_after}
use Rattle.walker.proofs.nth_from.Given as goal

-- the walk is over the record, and so many steps left from its state end where all of them do
abbrev pub invariant-loop-a : goal.invariant-loop-a
invariant-loop-a l = (l.w.«record».now ≡ l.«record») × (state_after l.«record» l.left l.w.state ≡ state_after l.«record» l.n l.fn.state)

abbrev pub decreases-loop-a : goal.decreases-loop-a
decreases-loop-a l = l.left
