-- Clause 8.6 of ETS 300 799: the field of 256 elements from P(x) = x^8 + x^7 + x^2 + x + 1. A byte is a polynomial below x^8, its bit of weight 2^k
-- the coefficient of x^k; sums are exclusive or; products are taken modulo P. Alpha, which the clause leaves open, is x, the byte 02.
-- Assumes nothing.
use Rattle.std.specs.Prelude.{Bool, true, false, ◌&&◌, List, [], ◌∷◌, ℕ, zero, suc, ◌*◌, ◌/◌, ◌%◌, ◌^◌, eqb}
use Rattle.std.specs.Int.Bits.{bit_xor}
pub use Rattle.sum.specs.Sum.{bit}

-- a coefficient times a
abbrev pub scale : Bool → ℕ → ℕ
scale true a = a
scale false a = 0

-- x^8 modulo P: x^7 + x^2 + x + 1
abbrev pub x⁸ : ℕ
x⁸ = 0x87

-- a times alpha: each coefficient moves up by one place, and what comes to x^8 is replaced
unfoldable pub twice : ℕ → ℕ
twice a = bit_xor (a * 2 ^ 1 % 2 ^ 8) (scale (bit a 7) x⁸)

-- a times the n lowest coefficients of b, by Horner's rule
unfoldable pub times_to : ℕ → ℕ → ℕ → ℕ
times_to zero a b = 0
times_to (suc n) a b = bit_xor (twice (times_to n a (b / 2 ^ 1))) (scale (bit b 0) (a % 2 ^ 8))

unfoldable pub times : ℕ → ℕ → ℕ
times a b = times_to 8 a b

-- the powers of alpha
unfoldable pub power : ℕ → ℕ
power zero = 1
power (suc n) = twice (power n)

-- a table of powers, by one test over the whole of it: the first entry is 1, and each other one the previous times alpha
abbrev pub follows : ℕ → List ℕ → Bool
follows x [] = true
follows x (y ∷ ys) = eqb y (twice x) && follows y ys

abbrev pub are_powers : List ℕ → Bool
are_powers [] = true
are_powers (y ∷ ys) = eqb y 1 && follows y ys
