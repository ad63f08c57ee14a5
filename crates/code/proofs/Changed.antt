-- What the distance gives: a clean row with 1 to r bytes changed is not clean; the check bytes are the only ones that make a row clean.
-- Assumes nothing.
use mathlib.Core.Path.{◌≡◌, refl, sym, ap, ap₂, ◌∙◌}
use mathlib.Core.Bool.{Bool, true, false}
use mathlib.Core.List.{List, [], ◌∷◌, ◌++◌, map}
use Prim.Native.Nat.{ℕ, zero, suc, ◌+◌, ◌^◌, ◌<◌, ◌≤◌}
use native.Mathlib.Omega.{arith}
use borrow.Author.Tests.{ne_eqb}
use lib.Bits.{bit_xor, xor_self, xor_lt}
use lib.Dec.{eqb}
use lib.ListN.{length, get_or, set, drop, replicate, length-append, length-set}
use lib.Pow.{pow_pos}
use Rattle.octets.specs.Choice.{pick}
use Rattle.octets.specs.Words.{Octets}
use Rattle.octets.proofs.EachByte.{append_octets, drop_octets}
use Rattle.field.specs.Field.{times}
use Rattle.field.proofs.FieldLaws.{times_lt}
use Rattle.code.specs.Code.{◌⊞◌, is_clean, lower, divide, remainder, check_bytes, Zeros, differences}
use Rattle.code.proofs.CleanRows.{clean_sum, checked_clean, check_length, length-sum}
use Rattle.code.proofs.Distance.{xor_same, distance}

sum_octets : (xs ys : List ℕ) → Octets xs → Octets ys → Octets (xs ⊞ ys)
sum_octets [] ys o p = tt
sum_octets (x ∷ xs) [] o p = tt
sum_octets (x ∷ xs) (y ∷ ys) o p = (xor_lt 8 x y o.0 p.0, sum_octets xs ys o.1 p.1)

same : (xs ys : List ℕ) → length xs ≡ length ys → Zeros (xs ⊞ ys) → xs ≡ ys
same [] [] e z = refl
same [] (y ∷ ys) e z = absurd (omega arith)
same (x ∷ xs) [] e z = absurd (omega arith)
same (x ∷ xs) (y ∷ ys) e z = ap₂ ◌∷◌ (xor_same x y z.0) (same xs ys (omega arith) z.1)

-- two clean rows that differ in at most r bytes are one
pub clean_same : (r : ℕ) (xs ys : List ℕ) → length xs ≡ length ys → length ys ≤ 255 → Octets xs → Octets ys → differences xs ys ≤ r → is_clean r xs ≡ true → is_clean r ys ≡ true → xs ≡ ys
clean_same r xs ys e b o p w c d =
    same xs ys e (distance r (xs ⊞ ys) (rw (length-sum xs ys e) b) (sum_octets xs ys o p) w (clean_sum r xs ys e c d))

differ_self : (xs : List ℕ) → differences xs xs ≡ 0
differ_self [] = refl
differ_self (x ∷ xs) = rw (xor_self x) (differ_self xs)

-- any number of bytes from 1 to r changed
pub changed : (r : ℕ) (xs ys : List ℕ) → length xs ≡ length ys → length ys ≤ 255 → Octets xs → Octets ys → 0 < differences xs ys → differences xs ys ≤ r → is_clean r xs ≡ true → is_clean r ys ≡ false
changed r xs ys e b o p h w c = go (is_clean r ys) refl
  where
    go : (k : Bool) → is_clean r ys ≡ k → k ≡ false
    go false d = refl
    go true d =
        absurd (let q = clean_same r xs ys e b o p w c d in
        let z : differences xs ys ≡ 0 = rw q (differ_self ys) in
        omega arith)

differ_set : (xs : List ℕ) (k v : ℕ) → k < length xs → (get_or xs k 0 ≡ v → ⊥) → differences xs (set xs k v) ≡ 1
differ_set [] k v h f = absurd (omega arith)
differ_set (x ∷ xs) zero v h f = rw (ne_eqb (bit_xor x v) 0 (λ e. f (xor_same x v e)), differ_self xs)
differ_set (x ∷ xs) (suc k) v h f = rw (xor_self x) (differ_set xs k v (omega arith) f)

set_octets : (xs : List ℕ) (k v : ℕ) → Octets xs → v < 2 ^ 8 → Octets (set xs k v)
set_octets [] k v o h = tt
set_octets (x ∷ xs) zero v o h = (h, o.1)
set_octets (x ∷ xs) (suc k) v o h = (o.0, set_octets xs k v o.1 h)

-- one byte changed
pub one_changed : (n : ℕ) (xs : List ℕ) (k v : ℕ) → length xs ≤ 255 → Octets xs → k < length xs → v < 2 ^ 8 → (get_or xs k 0 ≡ v → ⊥) → is_clean (suc n) xs ≡ true → is_clean (suc n) (set xs k v) ≡ false
one_changed n xs k v b o h l f c =
    let one = differ_set xs k v h f in
    let e = length-set xs k v in
    changed (suc n) xs (set xs k v) (sym e) (omega arith) o (set_octets xs k v o l) (omega arith) (omega arith) c

-- ---- the check bytes are the only ones
differ_le : (xs ys : List ℕ) → length xs ≡ length ys → differences xs ys ≤ length xs
differ_le [] [] e = omega arith
differ_le [] (y ∷ ys) e = absurd (omega arith)
differ_le (x ∷ xs) [] e = absurd (omega arith)
differ_le (x ∷ xs) (y ∷ ys) e = go (eqb (bit_xor x y) 0) (differ_le xs ys (omega arith))
  where
    go : (b : Bool) → differences xs ys ≤ length xs → pick b (differences xs ys) (suc (differences xs ys)) ≤ suc (length xs)
    go true h = omega arith
    go false h = omega arith

differ_behind : (info c d : List ℕ) → differences (info ++ c) (info ++ d) ≡ differences c d
differ_behind [] c d = refl
differ_behind (x ∷ info) c d = rw (xor_self x) (differ_behind info c d)

drop-front : (info c : List ℕ) → drop (length info) (info ++ c) ≡ c
drop-front [] c = refl
drop-front (x ∷ info) c = drop-front info c

map_octets : (f : ℕ) (xs : List ℕ) → Octets (map (times f) xs)
map_octets f [] = tt
map_octets f (x ∷ xs) = (times_lt f x, map_octets f xs)

remainder_octets : (g rest info : List ℕ) → Octets rest → Octets (remainder g rest info)
remainder_octets g rest [] o = o
remainder_octets g rest (b ∷ info) o =
    remainder_octets g (divide g rest b) info
    (sum_octets (drop 1 rest ++ (0 ∷ [])) (map (times (bit_xor b (get_or rest 0 0))) g)
    (append_octets (drop 1 rest) (0 ∷ []) (drop_octets 1 rest o) (pow_pos 8, tt))
    (map_octets (bit_xor b (get_or rest 0 0)) g))

zero_octets : (n : ℕ) → Octets (replicate n 0)
zero_octets zero = tt
zero_octets (suc n) = (pow_pos 8, zero_octets n)

pub check_octets : (r : ℕ) (info : List ℕ) → Octets (check_bytes r info)
unfolding check_bytes
check_octets r info = remainder_octets (lower r) (replicate r 0) info (zero_octets r)

-- with `checked_clean`: a row is clean exactly where its last bytes are the check bytes of the others
pub only_check : (n : ℕ) (info c : List ℕ) → length c ≡ suc n → length info + suc n ≤ 255 → Octets info → Octets c → is_clean (suc n) (info ++ c) ≡ true → c ≡ check_bytes (suc n) info
only_check n info c e b o p t =
    let d = check_bytes (suc n) info in
    let l : length c ≡ length d = e ∙ sym (check_length n info) in
    let sizes : length (info ++ c) ≡ length (info ++ d) = length-append info c ∙ ap (λ (k : ℕ). length info + k) l ∙ sym (length-append info d) in
    let q =
    clean_same (suc n) (info ++ c) (info ++ d) sizes (rw (length-append info d) (omega arith)) (append_octets info c o p) (append_octets info d o (check_octets (suc n) info))
    (rw (differ_behind info c d) (omega (arith, differ_le c d l))) t (checked_clean n info) in
    sym (drop-front info c) ∙ ap (drop (length info)) q ∙ drop-front info d
