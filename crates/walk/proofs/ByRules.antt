-- What the walk's proofs need of the rules: each look goes further, and after a frame the walk is in lock.
-- Assumes nothing.
use Prim.Native.Nat.{ℕ, ◌+◌, ◌≤◌, ◌<◌}
use mathlib.Core.Path.{◌≡◌, refl}
use mathlib.Core.Bool.{Bool, true, false, and-false, ◌||◌}
use mathlib.Core.Option.{none, some}
use lib.Dec.{leb, ltb}
use native.Mathlib.Omega.{arith}
use borrow.Author.Tests.{leb-true, leb-false, ltb-true, lt-leb, not-true}
use Rattle.frame.specs.declared.Header.{Header}
use Rattle.octets.specs.Choice.{pick}
use Rattle.octets.proofs.Deciding.{both}
use Rattle.walk.specs.Walk.{Judged, Position, Item, Frame, Lost, Idle, Done, Look, fits, confirmed, live, frame_at, item_at, keeps, look_locked, look_hunting, look, locked, hunting}
use Rattle.walk.specs.ItemValues.{place_of}

pub live_fits : (R : Judged) (s : Position) → live R s ≡ true → s.place + R.period ≤ R.len
unfolding live
live_fits R s e = leb-true (s.place + R.period) R.len (both (fits R s.place) _ e).0

pub live_few : (R : Judged) (p k : ℕ) → live R (locked p k) ≡ true → k < R.limit
unfolding live
live_few R p k e = leb-false R.limit k (not-true (leb R.limit k) (both (fits R p) _ e).1)

-- OF `confirmed`: it stands, and a place that does not, or has no period after it, is not confirmed
module _ (R : Judged) (p : ℕ) where
  pub confirmed_stands : confirmed R p ≡ true → R.stands p ≡ true
  unfolding confirmed
  confirmed_stands e = (both (R.stands p) _ e).0

  pub not-standing : R.stands p ≡ false → confirmed R p ≡ false
  unfolding confirmed
  not-standing e = rw e

  pub unfollowed : R.len < p + R.period + R.period → confirmed R p ≡ false
  unfolding confirmed
  unfollowed h = rw (lt-leb (p + R.period + R.period) R.len h) (and-false (R.stands p))

-- OF `item_at` AND `keeps`: a place that stands gives its frame, a null transmission an idle item, and both keep the lock; any other gives a lost mark
pub by_item : (R : Judged) (p : ℕ) (Q : Item → Bool → Type 0) →
    (R.stands p ≡ true → Q (frame_at R p) true) →
    (R.null p ≡ true → Q (Idle p) true) →
    (R.stands p ≡ false → R.null p ≡ false → Q (Lost p (R.refusal p)) false) →
    Q (item_at R p) (keeps R p)
unfolding item_at keeps
by_item R p Q frame idle lost = go (R.stands p) (R.null p) refl refl
  where
    go : (a b : Bool) → R.stands p ≡ a → R.null p ≡ b → Q (pick a (frame_at R p) (pick b (Idle p) (Lost p (R.refusal p)))) (a || b)
    go true b e d = frame e
    go false true e d = idle d
    go false false e d = lost e d

-- .. of which the proofs use these three, with `frame_keeps`
pub stands_keeps : (R : Judged) (p : ℕ) → R.stands p ≡ true → keeps R p ≡ true
unfolding keeps
stands_keeps R p e = rw e

pub stands_item : (R : Judged) (p : ℕ) → R.stands p ≡ true → item_at R p ≡ frame_at R p
unfolding item_at
stands_item R p e = rw e

pub place_item : (R : Judged) (p : ℕ) → place_of (item_at R p) ≡ p
place_item R p = by_item R p (λ x b. place_of x ≡ p) (λ e. refl) (λ e. refl) (λ e d. refl)

-- an item in lock is a frame only where the lock is kept, and it is never done
frame_keeps : (R : Judged) (p q : ℕ) (h : Header) → item_at R p ≡ Frame q h → (p ≡ q) × (keeps R p ≡ true)
frame_keeps R p q h = by_item R p (λ x b. x ≡ Frame q h → (p ≡ q) × (b ≡ true)) (λ e w. (cc, refl)) (λ e w. (cc, refl)) (λ e d w. (cc, cc))

item_not_done : (R : Judged) (p q : ℕ) → item_at R p ≡ Done q → ⊥
item_not_done R p q = by_item R p (λ x b. x ≡ Done q → ⊥) (λ e w. clash (cc)) (λ e w. clash (cc)) (λ e d w. clash (cc))
  where
    clash : ◌≡◌ {A = ℕ} 0 1 → ⊥
    clash z = omega arith

-- whatever holds of a look in every case of the rules
pub by_rules : (R : Judged) (Q : Position → Look → Type 0) →
    ((p k : ℕ) → keeps R p ≡ true → Q (locked p k) (record { gives = some (item_at R p); goes = locked (p + R.period) 0 })) →
    ((p k : ℕ) → keeps R p ≡ false → k + 1 < R.limit → Q (locked p k) (record { gives = some (item_at R p); goes = locked (p + R.period) (k + 1) })) →
    ((p k : ℕ) → keeps R p ≡ false → Q (locked p k) (record { gives = some (item_at R p); goes = hunting (p + 1) (k + 1) })) →
    ((p k : ℕ) → confirmed R p ≡ true → Q (hunting p k) (record { gives = some (frame_at R p); goes = locked (p + R.period) 0 })) →
    ((p k : ℕ) → Q (hunting p k) (record { gives = none; goes = hunting (p + 1) k })) →
    (s : Position) → Q s (look R s)
unfolding look look_locked look_hunting
by_rules R Q kept missed last hit passed s = go s.place s.misses s.lock
  where
    lose : (p k : ℕ) → keeps R p ≡ false → (b : Bool) → ltb (k + 1) R.limit ≡ b → Q (locked p k) (record { gives = some (item_at R p); goes = pick b (locked (p + R.period) (k + 1)) (hunting (p + 1) (k + 1)) })
    lose p k e true l = missed p k e (ltb-true (k + 1) R.limit l)
    lose p k e false l = last p k e

    in_lock : (p k : ℕ) (b : Bool) → keeps R p ≡ b → Q (locked p k) (record { gives = some (item_at R p); goes = pick b (locked (p + R.period) 0) (pick (ltb (k + 1) R.limit) (locked (p + R.period) (k + 1)) (hunting (p + 1) (k + 1))) })
    in_lock p k true e = kept p k e
    in_lock p k false e = lose p k e (ltb (k + 1) R.limit) refl

    hunts : (p k : ℕ) (b : Bool) → confirmed R p ≡ b → Q (hunting p k) (pick b (record { gives = some (frame_at R p); goes = locked (p + R.period) 0 }) (record { gives = none; goes = hunting (p + 1) k }))
    hunts p k true e = hit p k e
    hunts p k false e = passed p k

    go : (p k : ℕ) (b : Bool) → Q (record { place = p; misses = k; lock = b }) (pick b (look_locked R p k) (look_hunting R p k))
    go p k true = in_lock p k (keeps R p) refl
    go p k false = hunts p k (confirmed R p) refl

-- each look is at a later place than the one before
pub further : (R : Judged) → 0 < R.period → (s : Position) → s.place < (look R s).goes.place
further R positive = by_rules R (λ s l. s.place < l.goes.place) (λ p k e. omega arith) (λ p k e b. omega arith) (λ p k e. omega arith) (λ p k e. omega arith) (λ p k. omega arith)

-- after a frame the walk is in lock, a period later, with no misses
pub frame_locks : (R : Judged) (s : Position) (q : ℕ) (h : Header) → (look R s).gives ≡ some (Frame q h) → (look R s).goes ≡ locked (q + R.period) 0
frame_locks R s q h = by_rules R (λ s l. l.gives ≡ some (Frame q h) → l.goes ≡ locked (q + R.period) 0)
    (λ p k e f. cc (frame_keeps R p q h (cc)).0) (λ p k e b f. cc (frame_keeps R p q h (cc)).1) (λ p k e f. cc (frame_keeps R p q h (cc)).1) (λ p k e f. cc) (λ p k f. cc) s

-- no look hands out done
pub never_done : (R : Judged) (s : Position) (q : ℕ) → (look R s).gives ≡ some (Done q) → ⊥
never_done R s q = by_rules R (λ s l. l.gives ≡ some (Done q) → ⊥)
    (λ p k e f. item_not_done R p q (cc)) (λ p k e b f. item_not_done R p q (cc)) (λ p k e f. item_not_done R p q (cc))
    (λ p k e f. let z : ◌≡◌ {A = ℕ} 0 1 = cc in omega arith) (λ p k f. let z : ◌≡◌ {A = ℕ} 0 1 = cc in omega arith) s
