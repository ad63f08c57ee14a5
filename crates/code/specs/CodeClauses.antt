-- Nothing in this file need be believed: clauses between private functions.
-- Assumes nothing.
use Rattle.std.specs.Prelude.{List, [], ◌∷◌, map, ◌≡◌, ℕ, zero, suc, ◌^◌, ◌<◌, length, get_or}
use Rattle.std.specs.Int.{bytes_high_first}
use Rattle.std.specs.Int.Bits.{bit_xor}
use Rattle.field.specs.Field.{bit, scale, times}

-- the exclusive or of the first n numbers, each by a bit of f
abbrev pub by_bits : List ℕ → ℕ → ℕ → ℕ
by_bits t zero f = 0
by_bits t (suc n) f = bit_xor (by_bits t n f) (scale (bit f n) (get_or t n 0))

-- the bytes of that are f times these coefficients, whatever the byte f
abbrev pub Multiplies : List ℕ → List ℕ → Type 0
Multiplies t g = (f : ℕ) → f < 2 ^ 8 → bytes_high_first (length g) (by_bits t 8 f) ≡ map (times f) g

-- the generators' coefficients below the first, highest power first
abbrev pub five : List ℕ
five = 28 ∷ 37 ∷ 49 ∷ 164 ∷ 6 ∷ []

abbrev pub fourteen : List ℕ
fourteen = 183 ∷ 27 ∷ 95 ∷ 114 ∷ 67 ∷ 203 ∷ 249 ∷ 83 ∷ 190 ∷ 214 ∷ 61 ∷ 49 ∷ 114 ∷ 102 ∷ []
