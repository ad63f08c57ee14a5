use mathlib.Core.Logic.{inl, inr}
use mathlib.Core.Path.{refl}
use native.Mathlib.Omega.{arith}
use Rattle.why.specs.WhyClauses.{SaysAt}
use Rattle.why.proofs.seek_by.Goals as goal

pub returns-then-place-q : goal.returns-then-place-q
unfolding SaysAt
returns-then-place-q c = omega arith

pub returns-then-place-q-2 : goal.returns-then-place-q-2
unfolding SaysAt
returns-then-place-q-2 c = inl (omega arith, refl)

pub returns-then-place-next : goal.returns-then-place-next
unfolding SaysAt
returns-then-place-next c = inr (omega arith, omega arith, refl)

pub returns : goal.returns
unfolding SaysAt
returns c = (omega arith, omega arith)
