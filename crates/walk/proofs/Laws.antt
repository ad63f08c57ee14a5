-- One look, rule by rule: what it does to the items, and to the step.
-- Assumes nothing.
use Prim.Native.Nat.{ℕ, ◌+◌, ◌≤◌, ◌<◌}
use mathlib.Core.Path.{◌≡◌, ◌∙◌}
use mathlib.Core.Bool.{true, false, and-false}
use mathlib.Core.List.{[], ◌∷◌}
use mathlib.Core.Option.{none, some}
use native.Mathlib.Omega.{arith}
use borrow.Author.Tests.{le-leb, lt-leb, lt-ltb, le-ltb}
use Rattle.walk.specs.Walk.{Judged, Position, Look, Done, fits, confirmed, live, frame_at, item_at, keeps, look_locked, look_hunting, look, giving, items, step_by, step_of, locked, hunting}
use Rattle.walk.proofs.Looks.{items_dead, items_live, step_dead, step_live}

module _ (R : Judged) (positive : 0 < R.period) where
  -- where the walk is done
  pub no_room : (s : Position) → R.len < s.place + R.period → live R s ≡ false
  unfolding live
  no_room s h = rw (lt-leb (s.place + R.period) R.len h)

  spent : (p k : ℕ) → R.limit ≤ k → live R (locked p k) ≡ false
  unfolding live
  spent p k h = rw (le-leb R.limit k h) (and-false (fits R p))

  pub items_short : (s : Position) → R.len < s.place + R.period → items R s ≡ []
  items_short s h = items_dead R positive s (no_room s h)

  pub step_short : (s : Position) → R.len < s.place + R.period → step_of R s ≡ record { item = Done s.place; walk = s }
  step_short s h = step_dead R positive s (no_room s h)

  pub step_spent : (p k : ℕ) → R.limit ≤ k → step_of R (locked p k) ≡ record { item = Done p; walk = locked p k }
  step_spent p k h = step_dead R positive (locked p k) (spent p k h)

  -- where it looks: from what a look is, to the items and to the step
  items_look : (s : Position) → live R s ≡ true → (l : Look) → look R s ≡ l → items R s ≡ giving l.gives (items R l.goes)
  items_look s e l q = items_live R positive s e ∙ rw q

  step_look : (s : Position) → live R s ≡ true → (l : Look) → look R s ≡ l → step_of R s ≡ step_by l.gives l.goes (step_of R l.goes)
  step_look s e l q = step_live R positive s e ∙ rw q

  module _ (p k : ℕ) (room : p + R.period ≤ R.len) where
    live_locked : k < R.limit → live R (locked p k) ≡ true
    unfolding live
    live_locked b = rw (le-leb (p + R.period) R.len room, lt-leb R.limit k b)

    live_hunting : live R (hunting p k) ≡ true
    unfolding live
    live_hunting = rw (le-leb (p + R.period) R.len room)

    look_kept : keeps R p ≡ true → look R (locked p k) ≡ record { gives = some (item_at R p); goes = locked (p + R.period) 0 }
    unfolding look look_locked
    look_kept e = rw e

    look_missed : keeps R p ≡ false → k + 1 < R.limit → look R (locked p k) ≡ record { gives = some (item_at R p); goes = locked (p + R.period) (k + 1) }
    unfolding look look_locked
    look_missed e b = rw (e, lt-ltb (k + 1) R.limit b)

    look_last : keeps R p ≡ false → R.limit ≤ k + 1 → look R (locked p k) ≡ record { gives = some (item_at R p); goes = hunting (p + 1) (k + 1) }
    unfolding look look_locked
    look_last e b = rw (e, le-ltb (k + 1) R.limit b)

    look_confirmed : confirmed R p ≡ true → look R (hunting p k) ≡ record { gives = some (frame_at R p); goes = locked (p + R.period) 0 }
    unfolding look look_hunting
    look_confirmed e = rw e

    look_passed : confirmed R p ≡ false → look R (hunting p k) ≡ record { gives = none; goes = hunting (p + 1) k }
    unfolding look look_hunting
    look_passed e = rw e

    pub items_kept : k < R.limit → keeps R p ≡ true → items R (locked p k) ≡ item_at R p ∷ items R (locked (p + R.period) 0)
    unfolding giving
    items_kept b e = items_look (locked p k) (live_locked b) _ (look_kept e)

    pub items_missed : k + 1 < R.limit → keeps R p ≡ false → items R (locked p k) ≡ item_at R p ∷ items R (locked (p + R.period) (k + 1))
    unfolding giving
    items_missed b e = items_look (locked p k) (live_locked (omega arith)) _ (look_missed e b)

    pub items_last : k + 1 ≡ R.limit → keeps R p ≡ false → items R (locked p k) ≡ item_at R p ∷ items R (hunting (p + 1) (k + 1))
    unfolding giving
    items_last b e = items_look (locked p k) (live_locked (omega arith)) _ (look_last e (omega arith))

    pub items_confirmed : confirmed R p ≡ true → items R (hunting p k) ≡ frame_at R p ∷ items R (locked (p + R.period) 0)
    unfolding giving
    items_confirmed e = items_look (hunting p k) live_hunting _ (look_confirmed e)

    pub items_passed : confirmed R p ≡ false → items R (hunting p k) ≡ items R (hunting (p + 1) k)
    unfolding giving
    items_passed e = items_look (hunting p k) live_hunting _ (look_passed e)

    pub step_kept : k < R.limit → keeps R p ≡ true → step_of R (locked p k) ≡ record { item = item_at R p; walk = locked (p + R.period) 0 }
    unfolding step_by
    step_kept b e = step_look (locked p k) (live_locked b) _ (look_kept e)

    pub step_missed : k + 1 < R.limit → keeps R p ≡ false → step_of R (locked p k) ≡ record { item = item_at R p; walk = locked (p + R.period) (k + 1) }
    unfolding step_by
    step_missed b e = step_look (locked p k) (live_locked (omega arith)) _ (look_missed e b)

    pub step_last : k + 1 ≡ R.limit → keeps R p ≡ false → step_of R (locked p k) ≡ record { item = item_at R p; walk = hunting (p + 1) (k + 1) }
    unfolding step_by
    step_last b e = step_look (locked p k) (live_locked (omega arith)) _ (look_last e (omega arith))

    pub step_confirmed : confirmed R p ≡ true → step_of R (hunting p k) ≡ record { item = frame_at R p; walk = locked (p + R.period) 0 }
    unfolding step_by
    step_confirmed e = step_look (hunting p k) live_hunting _ (look_confirmed e)

    pub step_passed : confirmed R p ≡ false → step_of R (hunting p k) ≡ step_of R (hunting (p + 1) k)
    unfolding step_by
    step_passed e = step_look (hunting p k) live_hunting _ (look_passed e)
