-- The answers to C.
-- Assumes nothing.
use mathlib.Core.List.{List, [], ◌∷◌}
use mathlib.Core.Path.{◌≡◌, refl}
use Prim.Native.Nat.{ℕ}
use native.Mathlib.Omega.{arith}
use borrow.Author.Tests.{ne_eqb}
use lib.ListN.{length, set}
use Rattle.frame.specs.Rules.{refusal_of}
use Rattle.places.specs.Places.{profile_of}
use Rattle.collision.specs.Collisions.{two_of}
use Rattle.profiles.specs.ProfileBytes.{collision_bytes, CollisionTold}

pub three_bytes : (out : List ℕ) (a b c : ℕ) → length out ≡ 3 → set (set (set out 0 a) 1 b) 2 c ≡ a ∷ b ∷ c ∷ []
three_bytes [] a b c e = absurd (omega arith)
three_bytes (x ∷ []) a b c e = absurd (omega arith)
three_bytes (x ∷ y ∷ []) a b c e = absurd (omega arith)
three_bytes (x ∷ y ∷ z ∷ []) a b c e = refl
three_bytes (x ∷ y ∷ z ∷ w ∷ out) a b c e = absurd (omega arith)

pub three : (f : List ℕ) (n a b : ℕ) → n ≡ profile_of f → record { first = a; second = b } ≡ two_of f → n ∷ a ∷ b ∷ [] ≡ collision_bytes f
unfolding collision_bytes
three f n a b e t = λ i. e i ∷ (t i).first ∷ (t i).second ∷ []

module _ (f before : List ℕ) where
  pub not_three : (length before ≡ 3 → ⊥) → CollisionTold f before before 1
  not_three h = record { number = rw (ne_eqb (length before) 3 h); bytes = refl }

  pub refused : (n : ℕ) → length before ≡ 3 → n ≡ refusal_of f → (n ≡ 0 → ⊥) → CollisionTold f before before n
  refused n h e z = record { number = rw (h, e); bytes = rw (ne_eqb n 0 z) }

  pub told : (after : List ℕ) → length before ≡ 3 → 0 ≡ refusal_of f → after ≡ collision_bytes f → CollisionTold f before after 0
  told after h e a = record { number = rw h e; bytes = a }
