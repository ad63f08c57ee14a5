-- What the exports of the walk answer, and those that take a limit.
-- Assumes nothing.
use mathlib.Core.Bool.{true}
use mathlib.Core.List.{List}
use mathlib.Core.Path.{◌≡◌, refl, sym, ◌∙◌}
use Prim.Native.Nat.{ℕ, ◌≤◌, ◌<◌}
use native.Mathlib.Omega.{arith}
use borrow.Author.Tests.{eq-eqb, ne_eqb, lt-ltb, le-ltb}
use lib.ListN.{length, get_or}
use Rattle.octets.specs.Stores.{put}
use Rattle.octets.proofs.Storing.{put_all, alone}
use Rattle.walk.specs.declared.Item.{Item}
use Rattle.walk.specs.declared.State.{State}
use Rattle.walk.specs.Records.{allowed, limit_refusal_of, start}
use Rattle.walk.proofs.Limits.{allowed_is, number_allowed, number_outside}
use Rattle.block.specs.WalkBytes.{told_bytes, step_bytes}
use Rattle.walks.specs.WalkCalls.{begun_bytes, state_refusal_of, Limited}

-- ---- the walk's bytes
pub step_left : (l a : List ℕ) (x : Item) (s : State) → length l ≡ 23 → a ≡ put l 0 (step_bytes x s) → a ≡ step_bytes x s
unfolding step_bytes told_bytes
step_left l a x s o p = p ∙ put_all l _ (sym o)

-- a walk begun, with an allowed limit
pub begun_left : (l a : List ℕ) (m r : ℕ) → length l ≡ 23 → r ≡ limit_refusal_of m → r ≡ 0 → a ≡ put l 0 (told_bytes (start m) 0 0 0 0 0) → a ≡ begun_bytes m
unfolding told_bytes begun_bytes
begun_left l a m r o e z p =
    let ok = allowed_is m (number_allowed m (sym e ∙ z)) in
    rw (← alone m (omega (arith, ok.1))) (p ∙ put_all l _ (sym o))

-- ---- the walk's state
pub lock_wide : (w : List ℕ) → 1 < get_or w 9 0 → 12 ≡ state_refusal_of w
unfolding state_refusal_of
lock_wide w h = rw (lt-ltb 1 (get_or w 9 0) h)

pub lock_fits : (w : List ℕ) → get_or w 9 0 ≤ 1 → 0 ≡ state_refusal_of w
unfolding state_refusal_of
lock_fits w h = rw (le-ltb 1 (get_or w 9 0) h)

-- ---- an export that takes a limit
module _ (m n : ℕ) (bytes was : List ℕ) (r : ℕ) (e : r ≡ limit_refusal_of m) where
  pub limit_refused : (r ≡ 0 → ⊥) → Limited m n bytes was was r
  limit_refused f = record { number = e ∙ (rw (number_outside m (λ z. f (e ∙ z)))); answer = rw (ne_eqb r 0 f) }

  module _ (z : r ≡ 0) where
    ok : allowed m ≡ true
    ok = number_allowed m (sym e ∙ z)

    pub limited_length : (length was ≡ n → ⊥) → Limited m n bytes was was 1
    limited_length h = record { number = rw (ok, ne_eqb (length was) n h); answer = refl }

    pub limited_given : length was ≡ n → (left : List ℕ) → left ≡ bytes → Limited m n bytes was left 0
    limited_given whole left p = record { number = rw (ok, eq-eqb (length was) n whole); answer = p }
