-- `collision::first_from` meets its contract.
-- Assumes nothing.
use mathlib.Core.Bool.{Bool}
use mathlib.Core.Path.{◌≡◌}
use Prim.Native.Nat.{ℕ}
use Rattle.places.specs.declared.Place.{Place}
use Rattle.collision.specs.Collisions.{place_at, seek_to}
use Rattle.collision.proofs.FirstFound.{Sought, of_one}
use Rattle.collision.proofs.first_from.Given as goal

abbrev pub invariant-loop-i : goal.invariant-loop-i
invariant-loop-i g l =
    (t : Place → Bool)
    → ((p : Place) (r : Bool) → goal.F-post g l.test p r → r ≡ t p)
    → Sought (of_one t l.frame) l.i l.n (seek_to (λ (i : ℕ). t (place_at l.frame i)) l.from l.n)
