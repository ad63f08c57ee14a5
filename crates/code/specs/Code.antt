-- Clause 8.6 of ETS 300 799: the Reed-Solomon code with R check bytes, RS(235, 240) and RS(226, 240). A row is a polynomial over the field, its
-- first byte the coefficient of the highest power.
-- Assumes nothing.
use Rattle.std.specs.Prelude.{Bool, true, ◌&&◌, List, [], ◌∷◌, ◌++◌, map, ◌≡◌, ℕ, zero, suc, ◌+◌, eqb, get_or, drop, replicate}
use Rattle.std.specs.Int.Bits.{bit_xor}
use Rattle.octets.specs.Choice.{pick}
use Rattle.field.specs.Field.{times, power}

infixl 40 ◌⊞◌
-- the sum of two rows, byte by byte
abbrev pub ◌⊞◌ : List ℕ → List ℕ → List ℕ
[] ⊞ ys = []
(x ∷ xs) ⊞ [] = []
(x ∷ xs) ⊞ (y ∷ ys) = bit_xor x y ∷ (xs ⊞ ys)

-- coefficients taken in after v, by Horner's rule at z
abbrev pub horner : ℕ → ℕ → List ℕ → ℕ
horner z v [] = v
horner z v (b ∷ bs) = horner z (bit_xor (times v z) b) bs

-- the row's value at z
abbrev pub value_at : ℕ → List ℕ → ℕ
value_at z row = horner z 0 row

-- the roots of the generator: alpha^120 to alpha^(119 + R)
abbrev pub first_root : ℕ
first_root = 120

unfoldable pub root : ℕ → ℕ
root i = power (first_root + i)

-- a row is clean where its value at each of the R roots is zero
abbrev pub is_clean : ℕ → List ℕ → Bool
is_clean zero row = true
is_clean (suc r) row = is_clean r row && eqb (value_at (root r) row) 0

-- the product of x - alpha^i over the R roots: one factor more is a shift and a multiple
unfoldable pub generator : ℕ → List ℕ
generator zero = 1 ∷ []
generator (suc r) = (generator r ++ (0 ∷ [])) ⊞ (0 ∷ map (times (root r)) (generator r))

-- its coefficients below the first, which is 1
abbrev pub lower : ℕ → List ℕ
lower r = drop 1 (generator r)

-- long division by x^R + g: one coefficient more, of what is left
abbrev pub divide : List ℕ → List ℕ → ℕ → List ℕ
divide g rest b = (drop 1 rest ++ (0 ∷ [])) ⊞ map (times (bit_xor b (get_or rest 0 0))) g

abbrev pub remainder : List ℕ → List ℕ → List ℕ → List ℕ
remainder g rest [] = rest
remainder g rest (b ∷ bs) = remainder g (divide g rest b) bs

-- the check bytes: the remainder of the information times x^R by the generator
unfoldable pub check_bytes : ℕ → List ℕ → List ℕ
check_bytes r info = remainder (lower r) (replicate r 0) info

-- ---- rows held against each other
-- each byte is zero
abbrev pub Zeros : List ℕ → Type 0
Zeros [] = Unit {0}
Zeros (x ∷ xs) = (x ≡ 0) × Zeros xs

-- how many bytes are not zero
abbrev pub weight : List ℕ → ℕ
weight [] = 0
weight (x ∷ xs) = pick (eqb x 0) (weight xs) (suc (weight xs))

-- how many bytes two rows differ in
abbrev pub differences : List ℕ → List ℕ → ℕ
differences xs ys = weight (xs ⊞ ys)
