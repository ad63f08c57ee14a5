-- What the export leaves in the walk's bytes, and its refusals.
-- Assumes nothing.
use mathlib.Core.Bool.{Bool, true, false}
use mathlib.Core.List.{List}
use mathlib.Core.Path.{◌≡◌, sym, ap, ◌∙◌}
use Prim.Native.Nat.{ℕ, ◌+◌, ◌≤◌, ◌<◌}
use native.Mathlib.Omega.{arith}
use lib.ListN.{length, get_or}
use borrow.Author.Tests.{lt-ltb, le-ltb}
use Rattle.octets.specs.Stores.{put}
use Rattle.octets.proofs.Storing.{put_all}
use Rattle.octets.proofs.Deciding.{clash}
use Rattle.walk.specs.declared.State.{State}
use Rattle.block.specs.WalkBytes.{told_bytes}
use Rattle.live.specs.declared.Told.{Told}
use Rattle.live.specs.declared.Told.TheVariants.{More}
use Rattle.live.specs.Live.{placed_at, later, wants, waiting, waiting_at, far, live_at}
use Rattle.live.proofs.LiveParts.{wants_now, live_now, lock_waits, hunt_waits}
use Rattle.living.specs.LiveBytes.{live_bytes, held_by, live_refusal_of}

-- ---- more bytes wanted with no place looked at
pub told_false : (A : Type 0) → false ≡ true → A
told_false A e = clash (sym e)

module _ (s : State) (n : ℕ) (more : Bool) (near : s.position.place + n < far) (wanted : wants more s.limit s.position.misses s.position.lock ≡ true) (w : List ℕ) (whole : length w ≡ n) where
  now_is : waiting_at 0 s ≡ live_at w true s → live_at w more s ≡ waiting_at 0 s
  now_is p = sym (p ∙ live_now w more s wanted)

  pub hunting_waits : s.position.lock ≡ false → n < 12288 → live_at w more s ≡ waiting_at 0 s
  hunting_waits l h = now_is (hunt_waits w s (record { near = omega arith; wanted = wants_now more _ _ _ wanted; hunting = l }) (omega arith))

  pub locked_waits : s.position.lock ≡ true → n < 6144 → live_at w more s ≡ waiting_at 0 s
  locked_waits l h = now_is (lock_waits w s (record { near = omega arith; wanted = wants_now more _ _ _ wanted; locked = l }) (omega arith))

pub waiting_left : (l a : List ℕ) (s : State) → length l ≡ 23 → a ≡ put l 0 (live_bytes (More s.position.place) s) → a ≡ held_by (waiting_at 0 s)
unfolding live_bytes told_bytes waiting_at waiting later
waiting_left l a s o p =
    let e : s.position.place ≡ 0 + s.position.place = omega arith in
    p ∙ put_all l _ (sym o) ∙ ap (λ (q : ℕ). told_bytes (placed_at q s) 4 0 q 0 0) e

pub live_left : (l a : List ℕ) (t : Told) (s : State) → length l ≡ 23 → a ≡ put l 0 (live_bytes t s) → a ≡ live_bytes t s
unfolding live_bytes told_bytes
live_left l a t s o p = p ∙ put_all l _ (sym o)

-- ---- the refusals
module _ (more : ℕ) (w : List ℕ) where
  pub lock_wide : 1 < get_or w 9 0 → 12 ≡ live_refusal_of more w
  unfolding live_refusal_of
  lock_wide h = rw (lt-ltb 1 (get_or w 9 0) h)

  pub more_wide : get_or w 9 0 ≤ 1 → 1 < more → 12 ≡ live_refusal_of more w
  unfolding live_refusal_of
  more_wide l h = rw (le-ltb 1 (get_or w 9 0) l, lt-ltb 1 more h)

  pub both_fit : get_or w 9 0 ≤ 1 → more ≤ 1 → 0 ≡ live_refusal_of more w
  unfolding live_refusal_of
  both_fit l h = rw (le-ltb 1 (get_or w 9 0) l, le-ltb 1 more h)
