-- THE C WALK IS A WALK: the state that a call leaves in the walk's bytes is the one that the next call reads, the bytes of a walk begun are the beginning, and calls hand out what steps do.
-- Assumes nothing.
use mathlib.Core.Bool.{Bool, true, false}
use mathlib.Core.List.{List, [], ◌∷◌, map}
use mathlib.Core.Logic.{inl}
use mathlib.Core.Path.{◌≡◌, refl, sym, ap, subst, ◌∙◌}
use Prim.Native.Nat.{ℕ, ◌-◌, ◌/◌, ◌%◌, ◌^◌, ◌≤◌, ◌<◌}
use native.Mathlib.Omega.{arith}
use borrow.Author.Tests.{eq-eqb}
use lib.Dec.{eqb}
use lib.ListN.{length, get_or, replicate}
use Rattle.octets.specs.Words.{bytes8}
use Rattle.octets.proofs.SplitJoin.{join_split, join_lt}
use Rattle.octets.proofs.Storing.{alone}
use Rattle.frame.specs.Answers.{digit}
use Rattle.frame.specs.Writing.{Bytes}
use Rattle.walk.specs.declared.State.{State}
use Rattle.walk.specs.declared.Item.TheVariants.{Done}
use Rattle.walk.specs.Records.{judged, Allowed, allowed, start, step_with, step_at, calls_at}
use Rattle.walk.proofs.Limits.{allowed_is, by_limit, step_is, step_outside, limit_kept}
use Rattle.walk.proofs.Misses.{misses_within, place_within}
use Rattle.walk.proofs.Truth.{done_there}
use Rattle.controller.specs.Boundary.{lent_refusal, Told}
use Rattle.block.specs.WalkBytes.{told_bytes, step_bytes, state_in}
use Rattle.walks.specs.WalkCalls.{left_by, walk_of, begun_bytes, state_refusal_of, Called, none, more}
use Rattle.walks.proofs.WalkTelling.{lock_fits}

-- a state that a walk's bytes can hold
pub record Held (s : State) : Type 0 where
  pub place : s.position.place < 2 ^ 64
  pub misses : s.position.misses ≤ 255
  pub limit : s.limit ≤ 255

lock_back : (b : Bool) → eqb (digit b / 1 % 256) 1 ≡ b
lock_back true = refl
lock_back false = refl

lock_bit : (b : Bool) → digit b / 1 % 256 ≤ 1
lock_bit true = omega arith
lock_bit false = omega arith

module _ (s : State) (kind number item fct level : ℕ) where
  -- read back, the state is the one that was left, whatever is told behind it
  pub state_back : Held s → state_in (told_bytes s kind number item fct level) ≡ s
  unfolding state_in told_bytes
  state_back h =
      let place = join_split bytes8 s.position.place h.place in
      let misses = alone s.position.misses (omega (arith, h.misses)) in
      let lock = lock_back s.position.lock in
      let limit = alone s.limit (omega (arith, h.limit)) in
      λ i. record { limit = limit i; position = record { place = place i; misses = misses i; lock = lock i } }

  pub left_whole : length (told_bytes s kind number item fct level) ≡ 23
  unfolding told_bytes
  left_whole = refl

  pub left_lock : get_or (told_bytes s kind number item fct level) 9 0 ≤ 1
  unfolding told_bytes
  left_lock = lock_bit s.position.lock

-- where walk's bytes are 23 and nothing else is refused, a call answers 0 and leaves its bytes
pub answered : (refusal : ℕ) (bytes w left : List ℕ) (r : ℕ) → Told 23 refusal bytes w left r → length w ≡ 23 → 0 ≡ refusal → (r ≡ 0) × (left ≡ bytes)
answered refusal bytes w left r t whole e =
    let z : lent_refusal 23 (length w) refusal ≡ 0 = rw (eq-eqb (length w) 23 whole) (sym e) in
    (t.number ∙ z, t.answer ∙ (rw (eq-eqb (lent_refusal 23 (length w) refusal) 0 z)))

-- a walk begun is the walk at its beginning; bytes all zero are a walk with limit 0, which is done where it is
pub begun_begins : (m : ℕ) → state_in (begun_bytes m) ≡ start m
unfolding state_in begun_bytes
begun_begins m = refl

pub zero_done : (bytes : List ℕ) → walk_of bytes (replicate 23 0) ≡ step_bytes (Done 0) (start 0)
unfolding state_in step_with
zero_done bytes = ap left_by (done_there bytes (start 0) (inl (λ ok. let h = ok.0 in omega arith)))

pub few_misses : (bytes : List ℕ) (s : State) → s.position.misses ≤ 255 → (step_at bytes s).walk.position.misses ≤ 255
unfolding step_with judged
few_misses bytes s h =
    by_limit s.limit _
    (λ e. let ok = allowed_is s.limit e in rw (step_is bytes s.limit e s.position) (misses_within (judged s.limit bytes) (omega arith) 255 (omega (arith, ok.1)) s.position h))
    (λ e. rw (step_outside bytes s e) h)

module _ (bytes : List ℕ) (long : length bytes < 2 ^ 64) where
  place_held : (s : State) → s.position.place < 2 ^ 64 → (step_at bytes s).walk.position.place < 2 ^ 64
  unfolding step_with judged
  place_held s h = by_limit s.limit _ inside (λ e. rw (step_outside bytes s e) h)
    where
      inside : allowed s.limit ≡ true → (step_at bytes s).walk.position.place < 2 ^ 64
      inside e =
          let w = place_within (judged s.limit bytes) (omega arith) (2 ^ 64 - 1) (omega arith) s.position (omega (arith, h)) in
          rw (step_is bytes s.limit e s.position) (omega arith)

  step_held : (s : State) → Held s → Held (step_at bytes s).walk
  step_held s h = record { place = place_held s h.place; misses = few_misses bytes s h.misses; limit = rw (limit_kept bytes s) h.limit }

  calls_are : (w : List ℕ) (ws : List (List ℕ)) (s : State) → state_in w ≡ s → Held s → length w ≡ 23 → get_or w 9 0 ≤ 1 → Called bytes w ws
      → ws ≡ map left_by (calls_at bytes (length ws) s)
  unfolding calls_at step_bytes
  calls_are w [] s e h whole lock none = refl
  calls_are w (left ∷ ws) s e h whole lock (more {r = n} t rest) =
      let r = step_at bytes s in
      let k = step_held s h in
      let l : left ≡ left_by r = (answered (state_refusal_of w) (walk_of bytes w) w left n t whole (lock_fits w lock)).1 ∙ ap (λ (q : State). left_by (step_at bytes q)) e in
      let back : state_in left ≡ r.walk = ap state_in l ∙ state_back r.walk _ _ _ _ _ k in
      let later = calls_are left ws r.walk back k (ap length l ∙ left_whole r.walk _ _ _ _ _) (subst (λ (v : List ℕ). get_or v 9 0 ≤ 1) (sym l) (left_lock r.walk _ _ _ _ _)) rest in
      λ i. l i ∷ later i

  -- over any 23 bytes with a lock byte of 0 or 1, and over those of a walk begun: the calls leave what repeated steps hand back, items and states
  pub calls_are_steps : (w : List ℕ) (ws : List (List ℕ)) → length w ≡ 23 → Bytes w → get_or w 9 0 ≤ 1 → Called bytes w ws
      → ws ≡ map left_by (calls_at bytes (length ws) (state_in w))
  unfolding state_in
  calls_are_steps w ws whole b lock c =
      let p = join_lt bytes8 (get_or w 0 0 ∷ get_or w 1 0 ∷ get_or w 2 0 ∷ get_or w 3 0 ∷ get_or w 4 0 ∷ get_or w 5 0 ∷ get_or w 6 0 ∷ get_or w 7 0 ∷ []) (b 0, (b 1, (b 2, (b 3, (b 4, (b 5, (b 6, (b 7, tt)))))))) in
      calls_are w ws (state_in w) refl (record { place = p; misses = omega (arith, b 8); limit = omega (arith, b 10) }) whole lock c

  pub c_walk : (m : ℕ) → Allowed m → (ws : List (List ℕ)) → Called bytes (begun_bytes m) ws → ws ≡ map left_by (calls_at bytes (length ws) (start m))
  unfolding begun_bytes
  c_walk m ok ws c = calls_are (begun_bytes m) ws (start m) (begun_begins m) (record { place = omega arith; misses = omega arith; limit = omega (arith, ok.1) }) refl (omega arith) c
