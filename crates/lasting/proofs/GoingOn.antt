-- A step over a window of two periods, or in lock of one, goes further; and where more bytes are wanted few are kept.
-- Assumes nothing.
use Prim.Native.Nat.{ℕ, ◌+◌, ◌-◌, ◌≤◌, ◌<◌}
use mathlib.Core.Path.{◌≡◌, refl, sym, ap, ◌∙◌}
use mathlib.Core.Bool.{Bool, true, false, ◌&&◌}
use mathlib.Core.List.{List}
use native.Mathlib.Decide.{dec_le}
use native.Mathlib.Omega.{arith}
use lib.Dec.{lit<, leb}
use lib.ListN.{length}
use borrow.Author.Tests.{le-leb, lt-leb}
use Rattle.octets.specs.Choice.{pick}
use Rattle.walk.specs.declared.Item.{Item}
use Rattle.walk.specs.declared.Position.{Position}
use Rattle.walk.specs.declared.State.{State}
use Rattle.walk.specs.declared.Step.{Step}
use Rattle.walk.specs.Walk.{Judged, Stepped, live, step_of, locked}
use Rattle.walk.specs.Records.{judged, Allowed, allowed, within, step_with, step_at}
use Rattle.walk.proofs.Limits.{is_allowed, by_limit, step_is, step_outside}
use Rattle.walk.proofs.Looks.{step_dead}
use Rattle.walk.proofs.Onward.{step_further, misses_below}
use Rattle.live.specs.declared.LiveStep.{LiveStep}
use Rattle.live.specs.declared.Told.TheVariants.{Got, More}
use Rattle.live.specs.Live.{at_start, later, later_item, later_step, is_done, wants, standing, spare, telling, telling_at, waiting, waiting_at, far, live_at}
use Rattle.live.proofs.FirstPlaces.{standing_clear}
use Rattle.live.proofs.LiveParts.{wants_allowed, wants_few, near_step}
use Rattle.live.proofs.WindowSteps.{lock_gives}
use Rattle.lasting.specs.LiveRuns.{needed}
use Rattle.lasting.proofs.LiveSteps.{done_later}

-- a step that gives an item goes further
goes_ahead : (w : List ℕ) (s : State) → is_done (step_at w s).item ≡ false → s.position.place < (step_at w s).walk.position.place
unfolding judged step_with is_done
goes_ahead w s n = by_limit s.limit _ inside outside
  where
    R : Judged
    R = judged s.limit w

    not_done : (x : Item) (p : ℕ) → is_done x ≡ true → is_done x ≡ false → s.position.place < p
    not_done x p a b = let y : ◌≡◌ {A = ℕ} 0 1 = cc in absurd (omega arith)

    inside : allowed s.limit ≡ true → s.position.place < (step_at w s).walk.position.place
    inside e = rw (step_is w s.limit e s.position) (go (live R s.position) refl)
      where
        go : (b : Bool) → live R s.position ≡ b → s.position.place < (step_of R s.position).walk.place
        go true l = step_further R (lit< tt) s.position l
        go false l = not_done (step_at w s).item _ (ap (λ (r : Step). is_done r.item) (step_is w s.limit e s.position) ∙ ap (λ (r : Stepped). is_done r.item) (step_dead R (lit< tt) s.position l)) n

    outside : allowed s.limit ≡ false → s.position.place < (step_at w s).walk.position.place
    outside e = not_done (step_at w s).item _ (ap (λ (r : Step). is_done r.item) (step_outside w s e)) n

-- WHAT A RUN KEEPS: the limit is allowed, and in lock the misses are below it
pub record Fresh (m : ℕ) (s : State) : Type 0 where
  pub limit : s.limit ≡ m
  pub few : s.position.lock ≡ true → s.position.misses < m

pub fresh_wants : (m : ℕ) → Allowed m → (s : State) → Fresh m s → wants true s.limit s.position.misses s.position.lock ≡ true
unfolding wants
fresh_wants m ok s f = rw f.limit (go s.position.lock refl)
  where
    go : (b : Bool) → s.position.lock ≡ b → wants true m s.position.misses b ≡ true
    go true l = rw (is_allowed m ok, lt-leb m s.position.misses (f.few l))
    go false l = rw (is_allowed m ok)

step_fresh : (m : ℕ) → Allowed m → (w : List ℕ) (p : Position) → (p.lock ≡ true → p.misses < m) → Fresh m (step_at w (within m p)).walk
unfolding judged step_with
step_fresh m ok w p f = rw (step_is w m (is_allowed m ok) p) (record { limit = refl; few = misses_below (judged m w) (lit< tt) ok.0 p f })

-- ---- where more bytes are wanted
-- a walk in lock that more bytes make go on, and that shows nothing, has less than a period
less_in_lock : (w : List ℕ) (m k : ℕ) → wants true m k true ≡ true → is_done (step_at w (within m (locked 0 k))).item ≡ true → length w < 6144
less_in_lock w m k a e = go (dec_le 6144 (length w))
  where
    go : Dec (6144 ≤ length w) → length w < 6144
    go (no l) = omega arith
    go (yes l) = let z : true ≡ false = sym e ∙ lock_gives w m (wants_allowed m k true a) 0 k (omega arith) (wants_few m k a) in let y : ◌≡◌ {A = ℕ} 0 1 = cc in absurd (omega arith)

-- fewer than two periods are kept, or in lock than one
few_kept : (w : List ℕ) (m k : ℕ) (lock : Bool) → wants true m k lock ≡ true → is_done (step_at w (within m (record { place = 0; misses = k; lock = lock }))).item ≡ true → length w < spare w lock + needed lock
unfolding spare needed
few_kept w m k true a e = omega (arith, less_in_lock w m k a e)
few_kept w m k false a e = go (dec_le 12288 (length w))
  where
    go : Dec (12288 ≤ length w) → length w < pick (leb 12288 (length w)) (standing w (length w - 12287)) 0 + 12288
    go (yes l) = rw (le-leb 12288 (length w) l) (omega (arith, (standing_clear w (length w - 12287)).ahead))
    go (no l) = rw (lt-leb 12288 (length w) (omega arith)) (omega arith)

module _ (w : List ℕ) (s : State) (near : s.position.place + length w < far) (want : wants true s.limit s.position.misses s.position.lock ≡ true) where
  -- what is told, by cases of what the window shows
  by_shown : (Q : LiveStep → Type 0) →
      (is_done (step_at w (at_start s)).item ≡ true → Q (waiting_at (spare w s.position.lock) s)) →
      (is_done (step_at w (at_start s)).item ≡ false → Q (telling_at s.position.place (step_at w (at_start s)))) →
      Q (live_at w true s)
  by_shown Q f g = rw (near_step w true s near, want) (go (is_done (step_at w (at_start s)).item) refl)
    where
      go : (b : Bool) → is_done (step_at w (at_start s)).item ≡ b → Q (pick (b && true) (waiting_at (spare w s.position.lock) s) (telling_at s.position.place (step_at w (at_start s))))
      go true e = f e
      go false e = g e

  kept_here : is_done (step_at w (at_start s)).item ≡ true → length w < spare w s.position.lock + needed s.position.lock
  kept_here e = few_kept w s.limit s.position.misses s.position.lock want e

  -- PROGRESS: a window of two periods is enough, and in lock of one
  pub progress : needed s.position.lock ≤ length w → s.position.place < (live_at w true s).walk.position.place
  unfolding waiting waiting_at telling telling_at later_step later
  progress h = by_shown (λ r. s.position.place < r.walk.position.place) (λ e. omega (arith, kept_here e)) (λ e. omega (arith, goes_ahead w (at_start s) e))

  -- LITTLE IS KEPT
  pub kept : (q : ℕ) → (live_at w true s).told ≡ More q → ((live_at w true s).walk.position.place ≡ q) × (s.position.place + length w < q + needed s.position.lock)
  unfolding waiting waiting_at telling telling_at later_step later
  kept = by_shown (λ r. (q : ℕ) → r.told ≡ More q → (r.walk.position.place ≡ q) × (s.position.place + length w < q + needed s.position.lock))
      (λ e q z. let y : spare w s.position.lock + s.position.place ≡ q = cc in (y, omega (arith, kept_here e)))
      (λ e q z. let y : ◌≡◌ {A = ℕ} 0 1 = cc in absurd (omega arith))

  -- in lock, all
  pub kept_place : s.position.lock ≡ true → (q : ℕ) → (live_at w true s).told ≡ More q → q ≡ s.position.place
  unfolding waiting waiting_at telling telling_at later spare
  kept_place l = by_shown (λ r. (q : ℕ) → r.told ≡ More q → q ≡ s.position.place)
      (λ e q z. let y : spare w s.position.lock + s.position.place ≡ q = cc in let n : spare w s.position.lock ≡ 0 = rw l in omega arith)
      (λ e q z. let y : ◌≡◌ {A = ℕ} 0 1 = cc in absurd (omega arith))

  -- an item told, while more may come, is not done, and the walk goes further
  pub got_goes : (x : Item) → (live_at w true s).told ≡ Got x → (is_done x ≡ false) × (s.position.place < (live_at w true s).walk.position.place)
  unfolding waiting waiting_at telling telling_at later_step later
  got_goes = by_shown (λ r. (x : Item) → r.told ≡ Got x → (is_done x ≡ false) × (s.position.place < r.walk.position.place))
      (λ e x z. let y : ◌≡◌ {A = ℕ} 0 1 = cc in absurd (omega arith))
      (λ e x z.
      let y : later_item s.position.place (step_at w (at_start s)).item ≡ x = cc in
      (ap is_done (sym y) ∙ done_later s.position.place (step_at w (at_start s)).item ∙ e, omega (arith, goes_ahead w (at_start s) e)))

  -- where more bytes are wanted, the window shows no item
  pub shows_none : (q : ℕ) → (live_at w true s).told ≡ More q → is_done (step_at w (at_start s)).item ≡ true
  unfolding telling telling_at
  shows_none = by_shown (λ r. (q : ℕ) → r.told ≡ More q → is_done (step_at w (at_start s)).item ≡ true) (λ e q z. e) (λ e q z. let y : ◌≡◌ {A = ℕ} 0 1 = cc in absurd (omega arith))

pub live_fresh : (m : ℕ) → Allowed m → (w : List ℕ) (s : State) → s.position.place + length w < far → (more : Bool) → Fresh m s → Fresh m (live_at w more s).walk
unfolding waiting waiting_at telling telling_at later_step later
live_fresh m ok w s near more f = rw (near_step w more s near) (go (is_done (step_at w (at_start s)).item && wants more s.limit s.position.misses s.position.lock))
  where
    shown : Fresh m (step_at w (at_start s)).walk
    shown = rw f.limit (step_fresh m ok w (record { place = 0; misses = s.position.misses; lock = s.position.lock }) f.few)

    go : (b : Bool) → Fresh m (pick b (waiting_at (spare w s.position.lock) s) (telling_at s.position.place (step_at w (at_start s)))).walk
    go true = record { limit = f.limit; few = f.few }
    go false = record { limit = shown.limit; few = shown.few }
