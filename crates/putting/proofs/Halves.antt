-- Eight bytes of a number are those of its two halves.
-- Assumes nothing.
use mathlib.Core.List.{◌++◌}
use mathlib.Core.Path.{◌≡◌}
use Prim.Native.Nat.{ℕ, ◌/◌, ◌^◌}
use native.Mathlib.Nat.{div-one, div-div-eq-div-mul}
use Rattle.octets.specs.Words.{split, bytes4, bytes8}

-- eight bytes are those of the high word and those of the low
pub words_bytes : (n : ℕ) → split bytes4 (n / 2 ^ 32) ++ split bytes4 n ≡ split bytes8 n
words_bytes n = rw (div-div-eq-div-mul n (2 ^ 32) (2 ^ 24), div-div-eq-div-mul n (2 ^ 32) (2 ^ 16), div-div-eq-div-mul n (2 ^ 32) (2 ^ 8), div-one (n / 2 ^ 32))
