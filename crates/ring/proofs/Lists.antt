-- Exclusive or of lists of numbers, number by number.
-- Assumes nothing.
use mathlib.Core.Path.{◌≡◌, refl, sym, ap, ap₂, ◌∙◌}
use mathlib.Core.List.{List, [], ◌∷◌, ◌++◌}
use Prim.Native.Nat.{ℕ, zero, suc, ◌+◌, ◌≤◌, ◌<◌}
use native.Mathlib.Nat.{le_of_suc-le-suc, not-suc-le-zero}
use native.Mathlib.Numerals.{add-one}
use native.Mathlib.Omega.{arith}
use lib.Bits.{bit_xor, xor_comm, xor_zero_r}
use lib.ListN.{length, take, drop, get_or, set, replicate}
use Rattle.linear.proofs.Linear.{xors}
use Rattle.linear.proofs.Xor.{xor_assoc}

pub xors_comm : (xs ys : List ℕ) → xors xs ys ≡ xors ys xs
xors_comm [] [] = refl
xors_comm [] (y ∷ ys) = refl
xors_comm (x ∷ xs) [] = refl
xors_comm (x ∷ xs) (y ∷ ys) = ap₂ (λ (n : ℕ) (l : List ℕ). n ∷ l) (xor_comm x y) (xors_comm xs ys)

pub xors_assoc : (xs ys zs : List ℕ) → xors (xors xs ys) zs ≡ xors xs (xors ys zs)
xors_assoc [] ys zs = refl
xors_assoc (x ∷ xs) [] zs = refl
xors_assoc (x ∷ xs) (y ∷ ys) [] = refl
xors_assoc (x ∷ xs) (y ∷ ys) (z ∷ zs) = ap₂ (λ (n : ℕ) (l : List ℕ). n ∷ l) (xor_assoc x y z) (xors_assoc xs ys zs)

pub xors_cross : (a b c d : List ℕ) → xors (xors a b) (xors c d) ≡ xors (xors a c) (xors b d)
xors_cross a b c d = rw (xors_assoc a b (xors c d), ← xors_assoc b c d, xors_comm b c, xors_assoc c b d, ← xors_assoc a c (xors b d))

pub xors_nil : (xs : List ℕ) → xors xs [] ≡ xs
xors_nil [] = refl
xors_nil (x ∷ xs) = refl

pub xors_drop : (n : ℕ) (xs ys : List ℕ) → drop n (xors xs ys) ≡ xors (drop n xs) (drop n ys)
xors_drop zero xs ys = refl
xors_drop (suc n) [] ys = refl
xors_drop (suc n) (x ∷ xs) [] = sym (xors_nil (drop n xs))
xors_drop (suc n) (x ∷ xs) (y ∷ ys) = xors_drop n xs ys

-- the first number and the others
pub xors_first : (ss xs : List ℕ) (b : ℕ) → xors ss (b ∷ xs) ≡ bit_xor (get_or ss 0 0) b ∷ xors (drop 1 ss) xs
xors_first [] xs b = refl
xors_first (s ∷ ss) xs b = refl

pub length_xors : (xs ys : List ℕ) → length ys ≤ length (xors xs ys)
length_xors [] ys = omega arith
length_xors (x ∷ xs) [] = omega arith
length_xors (x ∷ xs) (y ∷ ys) = let h = length_xors xs ys in omega arith

-- q behind n zeros
unfoldable pub at : ℕ → ℕ → List ℕ
at n q = replicate n 0 ++ (q ∷ [])

pub snoc : (xs : List ℕ) (q : ℕ) → xs ++ (q ∷ []) ≡ xors xs (at (length xs) q)
unfolding at
snoc [] q = refl
snoc (x ∷ xs) q = ap₂ (λ (n : ℕ) (l : List ℕ). n ∷ l) (sym (xor_zero_r x)) (snoc xs q)

pub at_xor : (n a b : ℕ) → at n (bit_xor a b) ≡ xors (at n a) (at n b)
unfolding at
at_xor zero a b = refl
at_xor (suc n) a b = ap (λ (l : List ℕ). 0 ∷ l) (at_xor n a b)

-- a store of `ring::add`
added : (w ys : List ℕ) (k : ℕ) → k < length w → k < length ys → set (xors w (take k ys)) k (bit_xor (get_or (xors w (take k ys)) k 0) (get_or ys k 0)) ≡ xors w (take (suc k) ys)
added [] ys k h l = absurd (not-suc-le-zero h)
added (x ∷ w) [] k h l = absurd (not-suc-le-zero l)
added (x ∷ w) (y ∷ ys) zero h l = ap (λ (v : List ℕ). bit_xor x y ∷ v) (sym (xors_nil w))
added (x ∷ w) (y ∷ ys) (suc k) h l = ap (λ (v : List ℕ). bit_xor x y ∷ v) (added w ys k (le_of_suc-le-suc h) (le_of_suc-le-suc l))

pub add-more : (w₀ bytes w : List ℕ) (k : ℕ) → w ≡ xors w₀ (take k bytes) → k < length w₀ → k < length bytes
    → set w k (bit_xor (get_or w k 0) (get_or bytes k 0)) ≡ xors w₀ (take (k + 1) bytes)
add-more w₀ bytes w k e h l =
    ap (λ (v : List ℕ). set v k (bit_xor (get_or v k 0) (get_or bytes k 0))) e ∙ rw (add-one k) (added w₀ bytes k h l)
