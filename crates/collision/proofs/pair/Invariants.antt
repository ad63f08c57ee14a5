-- `collision::pair` meets its contract.
-- Assumes nothing.
use mathlib.Core.Bool.{Bool}
use mathlib.Core.Path.{◌≡◌}
use Rattle.places.specs.declared.Place.{Place}
use Rattle.collision.specs.Collisions.{earlier_to}
use Rattle.collision.proofs.FirstFound.{Sought, has_later}
use Rattle.collision.proofs.pair.Given as goal

abbrev pub invariant-loop-i : goal.invariant-loop-i
invariant-loop-i g l =
    (t : Place → Place → Bool)
    → ((p q : Place) (r : Bool) → goal.F-post g l.test p q r → r ≡ t p q)
    → Sought (has_later t l.frame l.n) l.i l.n (earlier_to t l.frame l.n)
