-- What the code's proofs cite.
-- Assumes nothing.
use Prim.Native.Nat.{ℕ, ◌+◌, ◌-◌, ◌≤◌, ◌<◌}
use mathlib.Core.Bool.{Bool, true, false, not, ◌&&◌, and-false}
use mathlib.Core.List.{List}
use mathlib.Core.Path.{◌≡◌, refl, sym, ap, ◌∙◌}
use mathlib.Core.Logic.{inl, inr}
use native.Mathlib.Decide.{dec_le}
use native.Mathlib.Omega.{arith}
use lib.Dec.{leb, ltb}
use lib.ListN.{length}
use borrow.Author.Tests.{leb-false, le-leb, lt-leb, ltb-true, ltb-false, not-true}
use Rattle.octets.specs.Choice.{pick}
use Rattle.octets.proofs.Deciding.{both}
use Rattle.frame.specs.Rules.{refusal_of}
use Rattle.walk.specs.declared.State.{State}
use Rattle.walk.specs.declared.Step.{Step}
use Rattle.walk.specs.Walk.{hunting, locked}
use Rattle.walk.specs.Records.{part, NoneStands, allowed, limit_refusal_of, within, step_at}
use Rattle.walk.proofs.Limits.{number_allowed, number_outside}
use Rattle.walk.proofs.Onward.{none_standing, walk_in, item_in}
use Rattle.live.specs.Live.{placed_at, at_start, is_done, wants, standing, spare, telling_at, waiting_at, over_at, far, live_at}
use Rattle.live.specs.LiveClauses.{Telling, Hunts, Locks}
use Rattle.live.proofs.FirstPlaces.{standing_end, standing_here, standing_past, standing_clear}
use Rattle.live.proofs.WindowSteps.{over_is_done, hunt_past, hunt_short, lock_gives}

-- ---- whether more bytes make a walk go on
module _ (more : Bool) (m k : ℕ) (lock : Bool) where
  pub wants_no : more ≡ false → false ≡ wants more m k lock
  unfolding wants
  wants_no e = rw e

  module _ (n : ℕ) (q : n ≡ limit_refusal_of m) where
    pub wants_outside : (n ≡ 0 → ⊥) → false ≡ wants more m k lock
    unfolding wants
    wants_outside z = rw (number_outside m (λ e. z (q ∙ e)), and-false)

    pub wants_hunting : more ≡ true → n ≡ 0 → lock ≡ false → not lock ≡ wants more m k lock
    unfolding wants
    wants_hunting e z l = rw (e, number_allowed m (sym q ∙ z), l)

    pub wants_lock : more ≡ true → n ≡ 0 → lock ≡ true → ltb k m ≡ wants more m k lock
    unfolding wants
    wants_lock e z l = rw (e, number_allowed m (sym q ∙ z), l) (go (ltb k m) refl)
      where
        go : (b : Bool) → ltb k m ≡ b → ltb k m ≡ not (leb m k)
        go true f = rw (f, lt-leb m k (ltb-true k m f))
        go false f = rw (f, le-leb m k (ltb-false k m f))

pub wants_allowed : (m k : ℕ) (lock : Bool) → wants true m k lock ≡ true → allowed m ≡ true
unfolding wants
wants_allowed m k lock e = (both (allowed m) _ e).0

pub wants_few : (m k : ℕ) → wants true m k true ≡ true → k < m
unfolding wants
wants_few m k e = leb-false m k (not-true (leb m k) (both (allowed m) _ e).1)

pub wants_now : (more : Bool) (m k : ℕ) (lock : Bool) → wants more m k lock ≡ true → wants true m k lock ≡ true
unfolding wants
wants_now more m k lock e = (both more _ e).1

pub live_now : (w : List ℕ) (more : Bool) (s : State) → wants more s.limit s.position.misses s.position.lock ≡ true → live_at w true s ≡ live_at w more s
unfolding wants
live_now w more s e = ap (λ (b : Bool). live_at w b s) (sym (both more _ e).0)

-- ---- the first place that stands
pub first_inside : (w : List ℕ) (a q : ℕ) → q ≡ standing w a → a ≤ length w → q ≤ length w
first_inside w a q e h = go (dec_le q a)
  where
    go : Dec (q ≤ a) → q ≤ length w
    go (yes l) = omega arith
    go (no l) = omega (arith, (standing_clear w a).room (q - 1) (omega arith) (omega arith))

module _ (w : List ℕ) (a p : ℕ) (passed : NoneStands w a p) where
  pub first_here : p + 6144 ≤ length w → refusal_of (part w p) ≡ 0 → p ≡ standing w a
  first_here room e = sym (standing_past w passed ∙ standing_here w p room e)

  pub first_end : length w < p + 6144 → p ≡ standing w a
  first_end h = sym (standing_past w passed ∙ standing_end w p h)

-- ---- the step
pub far_step : (w : List ℕ) (more : Bool) (s : State) → far ≤ s.position.place + length w → over_at s ≡ live_at w more s
unfolding live_at
far_step w more s h = rw (le-leb far (s.position.place + length w) h)

pub near_step : (w : List ℕ) (more : Bool) (s : State) → s.position.place + length w < far →
    live_at w more s ≡
    pick (is_done (step_at w (at_start s)).item && wants more s.limit s.position.misses s.position.lock)
    (waiting_at (spare w s.position.lock) s)
    (telling_at s.position.place (step_at w (at_start s)))
unfolding live_at
near_step w more s h = rw (lt-leb far (s.position.place + length w) h)

module _ (w : List ℕ) (s : State) (near : s.position.place + length w < far) where
  pub fits : (p : ℕ) → p ≤ length w → (r : Step) → r ≡ step_at w (placed_at p s) → Telling r s.position.place
  fits p h r e = record { item = rw e (omega (arith, item_in w (placed_at p s) h)); walk = rw e (omega (arith, walk_in w (placed_at p s) h)) }

  pub end_step : (more : Bool) → wants more s.limit s.position.misses s.position.lock ≡ false → (r : Step) → r ≡ step_at w (at_start s) → telling_at s.position.place r ≡ live_at w more s
  end_step more m r e = rw (e, near_step w more s near, m, and-false (is_done (step_at w (at_start s)).item))

  got_step : (r : Step) → r ≡ step_at w (at_start s) → is_done r.item ≡ false → telling_at s.position.place r ≡ live_at w true s
  got_step r e n = rw (e, near_step w true s near, rw e at n)

  wait_step : wants true s.limit s.position.misses s.position.lock ≡ true → is_done (step_at w (at_start s)).item ≡ true → (d : ℕ) → d ≡ spare w s.position.lock → waiting_at d s ≡ live_at w true s
  wait_step m n d e = rw (near_step w true s near, n, m, e)

-- in lock
module _ (w : List ℕ) (s : State) (L : Locks s w) where
  starts_locked : within s.limit (locked 0 s.position.misses) ≡ at_start s
  starts_locked = λ i. within s.limit (record { place = 0; misses = s.position.misses; lock = sym L.locked i })

  pub lock_waits : length w < 6144 → waiting_at 0 s ≡ live_at w true s
  unfolding spare
  lock_waits h = wait_step w s L.near L.wanted (over_is_done w (at_start s) (inr (inl h))) 0 (rw L.locked)

  pub lock_tells : 6144 ≤ length w → (r : Step) → r ≡ step_at w (at_start s) → telling_at s.position.place r ≡ live_at w true s
  lock_tells h r e =
      let m : wants true s.limit s.position.misses true ≡ true = rw L.locked at L.wanted in
      got_step w s L.near r e
      (ap (λ (x : Step). is_done x.item) (e ∙ ap (step_at w) (sym starts_locked)) ∙ lock_gives w s.limit (wants_allowed _ _ _ L.wanted) 0 s.position.misses h (wants_few _ _ m))

-- hunting
module _ (w : List ℕ) (s : State) (H : Hunts s w) where
  hunts_at : (p : ℕ) → placed_at p s ≡ within s.limit (hunting p s.position.misses)
  hunts_at p = λ i. within s.limit (record { place = p; misses = s.position.misses; lock = H.hunting i })

  ok : allowed s.limit ≡ true
  ok = wants_allowed _ _ _ H.wanted

  done_at : (p : ℕ) → length w < p + 12288 → is_done (step_at w (placed_at p s)).item ≡ true
  done_at p h = ap (λ (t : State). is_done (step_at w t).item) (hunts_at p) ∙ hunt_short s.limit w ok s.position.misses p h

  -- from the first place that stands on the hunt hands back the same
  from_first : (q : ℕ) → q ≡ standing w 0 → step_at w (placed_at q s) ≡ step_at w (at_start s)
  from_first q e =
      ap (step_at w) (hunts_at q)
      ∙ ap (λ (p : ℕ). step_at w (within s.limit (hunting p s.position.misses))) e
      ∙ sym (hunt_past s.limit w ok s.position.misses (none_standing s.limit w (standing_clear w 0)))
      ∙ ap (step_at w) (sym (hunts_at 0))

  pub hunt_waits : length w < 12288 → waiting_at 0 s ≡ live_at w true s
  unfolding spare
  hunt_waits h = wait_step w s H.near H.wanted (done_at 0 h) 0 (rw (H.hunting, lt-leb 12288 (length w) h))

  spare_is : 12288 ≤ length w → spare w s.position.lock ≡ standing w (length w - 12287)
  unfolding spare
  spare_is h = rw (H.hunting, le-leb 12288 (length w) h)

  -- the first place that stands has fewer than two periods
  pub hunt_first : 12288 ≤ length w → (q : ℕ) → q ≡ standing w 0 → length w < q + 12288 → waiting_at q s ≡ live_at w true s
  hunt_first l q e h =
      let c = standing_clear w 0 in
      let n : NoneStands w 0 (length w - 12287) = record { ahead = omega arith; room = λ p x y. c.room p x (omega arith); refused = λ p x y. c.refused p x (omega arith) } in
      wait_step w s H.near H.wanted (ap (λ (r : Step). is_done r.item) (sym (from_first q e)) ∙ done_at q h) q (e ∙ standing_past w n ∙ sym (spare_is l))

  module _ (q : ℕ) (e : q ≡ standing w 0) (r : Step) (f : r ≡ step_at w (placed_at q s)) where
    pub hunt_held : 12288 ≤ length w → is_done r.item ≡ true → (d : ℕ) → d ≡ standing w (length w - 12287) → waiting_at d s ≡ live_at w true s
    hunt_held l n d g = wait_step w s H.near H.wanted (ap (λ (x : Step). is_done x.item) (sym (from_first q e) ∙ sym f) ∙ n) d (g ∙ sym (spare_is l))

    pub hunt_tells : is_done r.item ≡ false → telling_at s.position.place r ≡ live_at w true s
    hunt_tells n = got_step w s H.near r (f ∙ from_first q e) n
