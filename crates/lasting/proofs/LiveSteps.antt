-- The step over a window of a line, whatever is to come: an item told is the next of the whole line, and where more bytes are wanted nothing is lost.
-- Assumes nothing.
use Prim.Native.Nat.{ℕ, ◌+◌, ◌-◌, ◌≤◌, ◌<◌}
use mathlib.Core.Path.{◌≡◌, refl, sym, ap, ◌∙◌}
use mathlib.Core.Bool.{Bool, true, false, ◌&&◌, and-false}
use mathlib.Core.List.{List, ◌++◌}
use mathlib.Core.Logic.{◌⊎◌, inl, inr}
use native.Mathlib.Decide.{dec_le}
use native.Mathlib.Omega.{arith}
use lib.Dec.{leb}
use lib.ListN.{length, length-drop}
use borrow.Author.Tests.{leb-true, le-leb, lt-leb}
use Rattle.octets.specs.Choice.{pick}
use Rattle.frame.specs.Rules.{refusal_of}
use Rattle.walk.specs.declared.Item.{Item}
use Rattle.walk.specs.declared.Item.TheVariants.{Frame, Lost, Idle, Done}
use Rattle.walk.specs.declared.State.{State}
use Rattle.walk.specs.declared.Step.{Step}
use Rattle.walk.specs.Walk.{hunting}
use Rattle.walk.specs.Records.{part, NoneStands, Allowed, allowed, within, step_at}
use Rattle.walk.proofs.Limits.{not-allowed}
use Rattle.walk.proofs.Onward.{Passed, none_standing, walk_in}
use Rattle.live.specs.Live.{placed_at, at_start, later, later_item, later_step, is_done, wants, standing, spare, telling, telling_at, waiting, waiting_at, far, live_at}
use Rattle.live.proofs.FirstPlaces.{standing_clear}
use Rattle.live.proofs.LiveParts.{wants_allowed, near_step, first_inside}
use Rattle.live.proofs.WindowSteps.{hunt_past}
use Rattle.lasting.specs.LiveRuns.{window, Right}
use Rattle.lasting.proofs.Sights.{Sees, sees, sees_all, passed_same}
use Rattle.lasting.proofs.Shifted.{step_later, spent_later, hunt_clear}

start_later : (s : State) → later s.position.place (at_start s) ≡ s
unfolding later
start_later s = ap (λ (p : ℕ). placed_at p s) (let q : s.position.place + 0 ≡ s.position.place = omega arith in q)

pub not-later : (s : State) (n : ℕ) → n ≡ 0 → later n s ≡ s
unfolding later
not-later s n e = ap (λ (p : ℕ). placed_at p s) (let q : n + s.position.place ≡ s.position.place = omega arith in q)

-- places that do not stand in the window do not stand in the whole
none_same : {d : ℕ} {w v : List ℕ} → Sees d w v → {a b : ℕ} → NoneStands w a b → NoneStands v (d + a) (d + b)
none_same {d} {w} {v} S {a} {b} n =
    record {
      ahead = omega (arith, n.ahead);
      room = λ p x y. omega (arith, n.room (p - d) (omega arith) (omega arith), S.room);
      refused = λ p x y z.
          let r = n.room (p - d) (omega arith) (omega arith) in
          n.refused (p - d) (omega arith) (omega arith)
          (ap refusal_of (sym (S.same (p - d) r)) ∙ ap (λ (i : ℕ). refusal_of (part v i)) (let q : d + (p - d) ≡ p = omega arith in q) ∙ z);
    }

-- WHERE THE WINDOW SHOWS NOTHING, nothing is lost of what is forgotten
module _ (v w : List ℕ) where
  held_long : (m d k : ℕ) → Sees d w v → allowed m ≡ true → is_done (step_at w (within m (hunting 0 k))).item ≡ true → 12288 ≤ length w →
      step_at v (within m (hunting (standing w (length w - 12287) + d) k)) ≡ step_at v (within m (hunting d k))
  held_long m d k S ok e h =
      let a = length w - 12287 in
      let P : Passed m v (d + 0) (d + a) = passed_same m S 0 a (λ i x y. absurd (omega arith)) (hunt_clear m w ok k e a (omega arith)) in
      let N : Passed m v (d + a) (d + standing w a) = none_standing m v (none_same S (standing_clear w a)) in
      ap (λ (p : ℕ). step_at v (within m (hunting p k))) (let q : standing w a + d ≡ d + standing w a = omega arith in q)
      ∙ sym (hunt_past m v ok k N)
      ∙ sym (hunt_past m v ok k P)
      ∙ ap (λ (p : ℕ). step_at v (within m (hunting p k))) (let q : d + 0 ≡ d = omega arith in q)

  waits : (m d k : ℕ) (lock : Bool) → Sees d w v → allowed m ≡ true → is_done (step_at w (within m (record { place = 0; misses = k; lock = lock }))).item ≡ true →
      step_at v (later (spare w lock) (within m (record { place = d; misses = k; lock = lock }))) ≡ step_at v (within m (record { place = d; misses = k; lock = lock }))
  unfolding spare later
  waits m d k true S ok e = ap (λ (p : ℕ). step_at v (within m (record { place = p; misses = k; lock = true }))) (let q : 0 + d ≡ d = omega arith in q)
  waits m d k false S ok e = go (dec_le 12288 (length w))
    where
      go : Dec (12288 ≤ length w) → step_at v (within m (hunting (pick (leb 12288 (length w)) (standing w (length w - 12287)) 0 + d) k)) ≡ step_at v (within m (hunting d k))
      go (yes h) = rw (le-leb 12288 (length w) h) (held_long m d k S ok e h)
      go (no h) = rw (lt-leb 12288 (length w) (omega arith)) (ap (λ (p : ℕ). step_at v (within m (hunting p k))) (let q : 0 + d ≡ d = omega arith in q))

-- a walk that more bytes do not help has ended by itself
pub by_itself : (m k : ℕ) (lock : Bool) → wants true m k lock ≡ false → (Allowed m → ⊥) ⊎ ((lock ≡ true) × (m ≤ k))
unfolding wants
by_itself m k lock e = go (allowed m) refl lock refl (leb m k) refl
  where
    go : (a : Bool) → allowed m ≡ a → (l : Bool) → lock ≡ l → (b : Bool) → leb m k ≡ b → (Allowed m → ⊥) ⊎ ((lock ≡ true) × (m ≤ k))
    go false x l y b z = inl (not-allowed m x)
    go true x true y true z = inr (y, leb-true m k z)
    go true x true y false z = let q : true ≡ false = rw (x, y, z) at e in let f : ◌≡◌ {A = ℕ} 0 1 = cc in absurd (omega arith)
    go true x false y b z = let q : true ≡ false = rw (x, y) at e in let f : ◌≡◌ {A = ℕ} 0 1 = cc in absurd (omega arith)

waiting_right : (v : List ℕ) (s : State) (n : ℕ) → step_at v (later n s) ≡ step_at v s → Right v s (waiting_at n s)
unfolding waiting waiting_at
waiting_right v s n e = inr (refl, e)

-- OVER A WINDOW of v
module _ (v w : List ℕ) (s : State) (S : Sees s.position.place w v) (near : s.position.place + length w < far) where
  tells : step_at v (later s.position.place (at_start s)) ≡ later_step s.position.place (step_at w (at_start s)) → telling_at s.position.place (step_at w (at_start s)) ≡ telling (step_at v s)
  unfolding telling_at
  tells e = ap telling (sym e ∙ ap (step_at v) (start_later s))

  pub right : Right v s (live_at w true s)
  right = rw (near_step w true s near) (go (is_done (step_at w (at_start s)).item) refl (wants true s.limit s.position.misses s.position.lock) refl)
    where
      go : (a : Bool) → is_done (step_at w (at_start s)).item ≡ a → (b : Bool) → wants true s.limit s.position.misses s.position.lock ≡ b →
          Right v s (pick (a && b) (waiting_at (spare w s.position.lock) s) (telling_at s.position.place (step_at w (at_start s))))
      go false e b q = inl (tells (step_later S (at_start s) (inl e)))
      go true e true q = waiting_right v s _ (waits v w s.limit s.position.place s.position.misses s.position.lock S (wants_allowed _ _ _ q) e)
      go true e false q = inl (tells (spent_later S (at_start s) (by_itself _ _ _ q)))

  pub right_end : length v ≡ s.position.place + length w → live_at w false s ≡ telling (step_at v s)
  unfolding wants
  right_end l = near_step w false s near ∙ rw (and-false (is_done (step_at w (at_start s)).item)) (tells (step_later S (at_start s) (inr l)))

pub done_later : (d : ℕ) (x : Item) → is_done (later_item d x) ≡ is_done x
unfolding is_done later_item
done_later d (Frame p h) = refl
done_later d (Lost p n) = refl
done_later d (Idle p) = refl
done_later d (Done p) = refl

-- no more is forgotten than the window has
pub spare_inside : (w : List ℕ) (lock : Bool) → spare w lock ≤ length w
unfolding spare
spare_inside w lock = go lock (leb 12288 (length w))
  where
    go : (lock b : Bool) → pick lock 0 (pick b (standing w (length w - 12287)) 0) ≤ length w
    go true b = omega arith
    go false true = first_inside w (length w - 12287) _ refl (omega arith)
    go false false = omega arith

-- OVER THE WINDOW of what has come
module _ (came : List ℕ) (s : State) (inside : s.position.place ≤ length came) (near : length came < far) where
  pub room : s.position.place + length (window came s) ≡ length came
  room = rw (length-drop s.position.place came) (omega arith)

  -- THE LAW OF A STEP: whatever is to come, a step over the window of what has come is right over the whole line
  pub live_right : (b : List ℕ) → Right (came ++ b) s (live_at (window came s) true s)
  live_right b = right (came ++ b) (window came s) s (sees came b s.position.place inside) (omega (arith, room))

  -- and once the line has ended, it is the walk's step over all that came
  pub live_end : live_at (window came s) false s ≡ telling (step_at came s)
  live_end = right_end came (window came s) s (sees_all came s.position.place inside) (omega (arith, room)) (sym room)

  -- where the window shows no item, the walk over all that came is done
  pub all_done : is_done (step_at (window came s) (at_start s)).item ≡ true → is_done (step_at came s).item ≡ true
  unfolding later_step
  all_done e =
      let S = sees_all came s.position.place inside in
      ap (λ (r : Step). is_done r.item) (ap (step_at came) (sym (start_later s)) ∙ step_later S (at_start s) (inr (sym room))) ∙ done_later s.position.place (step_at (window came s) (at_start s)).item ∙ e

  -- the next window begins in this one
  pub live_inside : (more : Bool) → (live_at (window came s) more s).walk.position.place ≤ length came
  unfolding waiting waiting_at telling_at telling later_step later
  live_inside more =
      rw (near_step (window came s) more s (omega (arith, room))) (go (is_done (step_at (window came s) (at_start s)).item && wants more s.limit s.position.misses s.position.lock))
    where
      w : List ℕ
      w = window came s

      go : (b : Bool) → (pick b (waiting_at (spare w s.position.lock) s) (telling_at s.position.place (step_at w (at_start s)))).walk.position.place ≤ length came
      go true = omega (arith, room, spare_inside w s.position.lock)
      go false = omega (arith, room, walk_in w (at_start s) (omega arith))
