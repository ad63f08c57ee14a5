-- The answer bytes of the count at the C boundary, as docs/BOUNDARY.md lays them out.
-- Assumes nothing.
use Rattle.std.specs.Prelude.{ℕ, List, [], ◌∷◌}
use Rattle.encoded.specs.AnswerBytes.{encode}
use Rattle.looks.specs.Testing.{tests_of}

-- the count in eight bytes, high byte first
unfoldable pub count_bytes : ℕ → List ℕ → List ℕ
count_bytes m bytes = encode (8 ∷ []) (tests_of m bytes ∷ [])
