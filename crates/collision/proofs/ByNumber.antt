-- The streams that a number is about.
-- Assumes nothing.
use mathlib.Core.List.{List}
use mathlib.Core.Path.{◌≡◌}
use Prim.Native.Nat.{ℕ}
use borrow.Author.Tests.{ne_eqb}
use Rattle.collision.specs.Collisions.{two_by}

-- a number that is about none
pub by_other : (number : ℕ) (f : List ℕ) (n : ℕ) → (number ≡ 30 → ⊥) → (number ≡ 31 → ⊥) → (number ≡ 32 → ⊥) → (number ≡ 33 → ⊥) → record { first = 0; second = 0 } ≡ two_by number f n
unfolding two_by
by_other number f n a b c d = rw (ne_eqb number 30 a, ne_eqb number 31 b, ne_eqb number 32 c, ne_eqb number 33 d)
