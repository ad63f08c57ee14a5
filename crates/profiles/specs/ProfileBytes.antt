-- The profile on byte slices, for C.
-- Assumes nothing.
use Rattle.std.specs.Prelude.{List, [], ◌∷◌, ◌≡◌, ℕ, eqb, length}
use Rattle.octets.specs.Choice.{pick}
use Rattle.frame.specs.Rules.{refusal_of}
use Rattle.places.specs.Places.{profile_of}
use Rattle.collision.specs.Collisions.{two_of}

-- three bytes: the number, and the places in the table of the streams that it is about
unfoldable pub collision_bytes : List ℕ → List ℕ
collision_bytes f = profile_of f ∷ (two_of f).first ∷ (two_of f).second ∷ []

-- answer bytes of another length are refused with 1, then comes reading's refusal; refused, they are left as they were
pub record CollisionTold (f before after : List ℕ) (n : ℕ) : Type 0 where
  pub number : n ≡ pick (eqb (length before) 3) (refusal_of f) 1
  pub bytes : after ≡ pick (eqb n 0) (collision_bytes f) before
