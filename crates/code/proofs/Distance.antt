-- The distance of the code, over the number r of check bytes: a clean row of at most 255 bytes with at most r bytes that are not zero has none.
-- So a clean row with any 1 to r bytes changed is not clean, and the check bytes are the only ones.
-- Assumes nothing.
use mathlib.Core.Path.{◌≡◌, refl, sym, ap, ap₂, ◌∙◌}
use mathlib.Core.Bool.{Bool, true, false}
use mathlib.Core.List.{List, [], ◌∷◌}
use Prim.Native.Nat.{ℕ, zero, suc, ◌+◌, ◌*◌, ◌^◌, ◌<◌, ◌≤◌}
use native.Mathlib.Nat.{le_of_suc-le-suc, suc-mul, add-zero}
use native.Mathlib.Omega.{arith}
use borrow.Author.Tests.{eqb-true, eq-eqb}
use lib.Bits.{bit_xor, xor_self, xor_zero_r, xor_zero_l, xor_lt}
use lib.Dec.{eqb}
use lib.ListN.{length}
use Rattle.octets.specs.Choice.{pick}
use Rattle.octets.specs.Words.{Octets}
use Rattle.linear.proofs.Xor.{xor_assoc, xor_cross}
use Rattle.field.specs.Field.{times, power}
use Rattle.field.proofs.FieldLaws.{linear_l, linear_r, at_zero, times_assoc, times_comm, times_lt, times_power, power_lt}
use Rattle.field.proofs.Inverses.{no_zero, power_pos, powers_apart}
use Rattle.code.specs.Code.{horner, value_at, first_root, root, is_clean, Zeros, weight}
use Rattle.code.proofs.CleanRows.{horner_start, lift_power, clean_at}

-- ---- the row's value at alpha^k, as a sum over its bytes
sum_at : ℕ → List ℕ → ℕ
sum_at k [] = 0
sum_at k (x ∷ xs) = bit_xor (times x (power (k * length xs))) (sum_at k xs)

value_sum : (k : ℕ) (xs : List ℕ) → Octets xs → value_at (power k) xs ≡ sum_at k xs
unfolding sum_at
value_sum k [] o = refl
value_sum k (x ∷ xs) o =
    let z = power k in
    let start : bit_xor (times 0 z) x ≡ x = ap (λ (w : ℕ). bit_xor w x) (at_zero (linear_l z)) ∙ xor_zero_l x in
    ap (λ (w : ℕ). horner z w xs) start
    ∙ horner_start z x xs
    ∙ ap₂ bit_xor (lift_power k (length xs) x o.0) (value_sum k xs o.1)

sum_zeros : (k : ℕ) (xs : List ℕ) → Zeros xs → sum_at k xs ≡ 0
unfolding sum_at
sum_zeros k [] z = refl
sum_zeros k (x ∷ xs) z =
    let p = power (k * length xs) in
    ap₂ bit_xor (ap (λ (y : ℕ). times y p) z.0 ∙ at_zero (linear_l p)) (sum_zeros k xs z.1)

-- ---- the byte at alpha^m taken out of two sums: each byte that is left, times what its place and that one differ by
pulled : ℕ → List ℕ → List ℕ
pulled m [] = []
pulled m (x ∷ xs) = times x (bit_xor (power (length xs)) (power m)) ∷ pulled m xs

pulled_length : (m : ℕ) (xs : List ℕ) → length (pulled m xs) ≡ length xs
unfolding pulled
pulled_length m [] = refl
pulled_length m (x ∷ xs) = ap suc (pulled_length m xs)

pulled_octets : (m : ℕ) (xs : List ℕ) → Octets (pulled m xs)
unfolding pulled
pulled_octets m [] = tt
pulled_octets m (x ∷ xs) = (times_lt x (bit_xor (power (length xs)) (power m)), pulled_octets m xs)

weight_le : (x : ℕ) (xs : List ℕ) → weight (x ∷ xs) ≤ suc (weight xs)
weight_le x xs = go (eqb x 0)
  where
    go : (b : Bool) → pick b (weight xs) (suc (weight xs)) ≤ suc (weight xs)
    go true = omega arith
    go false = omega arith

pulled_weight : (m : ℕ) (xs : List ℕ) → weight (pulled m xs) ≤ weight xs
unfolding pulled
pulled_weight m [] = omega arith
pulled_weight m (x ∷ xs) = go (eqb x 0) refl (pulled_weight m xs)
  where
    f : ℕ
    f = bit_xor (power (length xs)) (power m)

    go : (b : Bool) → eqb x 0 ≡ b → weight (pulled m xs) ≤ weight xs → weight (times x f ∷ pulled m xs) ≤ pick b (weight xs) (suc (weight xs))
    go true e h =
        let z : times x f ≡ 0 = ap (λ (y : ℕ). times y f) (eqb-true x 0 e) ∙ at_zero (linear_l f) in
        rw (eq-eqb (times x f) 0 z) h
    go false e h = omega (arith, weight_le (times x f) (pulled m xs))

one_term : (k m e x : ℕ) → times (times x (bit_xor (power e) (power m))) (power (k * e)) ≡ bit_xor (times x (power (suc k * e))) (times (power m) (times x (power (k * e))))
one_term k m e x =
    let c = power (k * e) in
    ap (λ (y : ℕ). times y c) ((linear_r x).law (power e) (power m))
    ∙ (linear_l c).law (times x (power e)) (times x (power m))
    ∙ ap₂ bit_xor
    (sym (times_assoc x (power e) c) ∙ ap (times x) (times_power e (k * e) ∙ ap power (let q : e + k * e ≡ suc k * e = rw suc-mul (omega arith) in q)))
    (ap (λ (y : ℕ). times y c) (times_comm x (power m)) ∙ sym (times_assoc (power m) x c))

pulled_sum : (k m : ℕ) (xs : List ℕ) → sum_at k (pulled m xs) ≡ bit_xor (sum_at (suc k) xs) (times (power m) (sum_at k xs))
unfolding pulled sum_at
pulled_sum k m [] = sym (at_zero (linear_r (power m)))
pulled_sum k m (x ∷ xs) =
    let e = length xs in
    let f = bit_xor (power e) (power m) in
    let t = times x (power (k * e)) in
    ap₂ bit_xor (ap (λ (n : ℕ). times (times x f) (power (k * n))) (pulled_length m xs) ∙ one_term k m e x) (pulled_sum k m xs)
    ∙ xor_cross (times x (power (suc k * e))) (times (power m) t) (sum_at (suc k) xs) (times (power m) (sum_at k xs))
    ∙ ap (bit_xor (bit_xor (times x (power (suc k * e))) (sum_at (suc k) xs))) (sym ((linear_r (power m)).law t (sum_at k xs)))

-- of the whole row the first byte is gone
first_gone : (k x : ℕ) (xs : List ℕ) → bit_xor (sum_at (suc k) (x ∷ xs)) (times (power (length xs)) (sum_at k (x ∷ xs))) ≡ sum_at k (pulled (length xs) xs)
unfolding sum_at
first_gone k x xs =
    let m = length xs in
    let p = power m in
    let a = times x (power (suc k * m)) in
    let t = times x (power (k * m)) in
    let same : times p t ≡ a =
    times_assoc p x (power (k * m)) ∙ ap (λ (y : ℕ). times y (power (k * m))) (times_comm p x) ∙ sym (times_assoc x p (power (k * m)))
    ∙ ap (times x) (times_power m (k * m) ∙ ap power (let q : m + k * m ≡ suc k * m = rw suc-mul (omega arith) in q)) in
    ap (bit_xor (bit_xor a (sum_at (suc k) xs))) ((linear_r p).law t (sum_at k xs))
    ∙ xor_cross a (sum_at (suc k) xs) (times p t) (times p (sum_at k xs))
    ∙ ap (λ (y : ℕ). bit_xor y (bit_xor (sum_at (suc k) xs) (times p (sum_at k xs)))) (ap (bit_xor a) same ∙ xor_self a)
    ∙ xor_zero_l (bit_xor (sum_at (suc k) xs) (times p (sum_at k xs)))
    ∙ sym (pulled_sum k m xs)

pub xor_same : (a b : ℕ) → bit_xor a b ≡ 0 → a ≡ b
xor_same a b e = sym (xor_zero_r a) ∙ ap (bit_xor a) (sym (xor_self b)) ∙ sym (xor_assoc a b b) ∙ ap (λ (y : ℕ). bit_xor y b) e ∙ xor_zero_l b

above_zero : (a : ℕ) → (a ≡ 0 → ⊥) → 0 < a
above_zero zero h = absurd (h refl)
above_zero (suc a) h = omega arith

unpulled : (m : ℕ) (xs : List ℕ) → length xs ≤ m → m < 255 → Octets xs → Zeros (pulled m xs) → Zeros xs
unfolding pulled
unpulled m [] h l o z = tt
unpulled m (x ∷ xs) h l o z =
    let f = bit_xor (power (length xs)) (power m) in
    let pos : 0 < f = above_zero f (λ e. powers_apart (length xs) m (omega arith) l (xor_same (power (length xs)) (power m) e)) in (
      no_zero f x pos (xor_lt 8 (power (length xs)) (power m) (power_lt (length xs)) (power_lt m)) o.0 (times_comm f x ∙ z.0),
      unpulled m xs (omega arith) l o.1 z.1,
    )

-- r sums that are zero, one after the other
abbrev Silent : ℕ → ℕ → List ℕ → Type 0
Silent r a row = (i : ℕ) → i < r → sum_at (a + i) row ≡ 0

abbrev Few : ℕ → Type 0
Few n = (r a : ℕ) (row : List ℕ) → length row ≡ n → Octets row → weight row ≤ r → Silent r a row → Zeros row

-- the first byte is zero: it adds nothing
skip : (n r a x : ℕ) (xs : List ℕ) → Few n → x ≡ 0 → length xs ≡ n → Octets xs → weight xs ≤ r → Silent r a (x ∷ xs) → Zeros (x ∷ xs)
unfolding sum_at
skip n r a x xs later z e o w s = (
  z,
  later r a xs e o w (λ i h.
      let p = power ((a + i) * length xs) in
      sym (xor_zero_l (sum_at (a + i) xs)) ∙ ap (λ (y : ℕ). bit_xor y (sum_at (a + i) xs)) (sym (ap (λ (y : ℕ). times y p) z ∙ at_zero (linear_l p))) ∙ s i h),
)

-- it is not: it is taken out, and with it one sum
take_out : (n r a x : ℕ) (xs : List ℕ) → Few n → n < 255 → length xs ≡ n → x < 2 ^ 8 → Octets xs → weight xs ≤ r → Silent (suc r) a (x ∷ xs) → Zeros (x ∷ xs)
unfolding sum_at
take_out n r a x xs later b e h o w s =
    let m = length xs in
    let p = power (a * m) in
    let quiet : Silent r a (pulled m xs) =
    λ i l.
    sym (first_gone (a + i) x xs)
    ∙ ap₂ bit_xor (ap (λ (k : ℕ). sum_at k (x ∷ xs)) (let q : suc (a + i) ≡ a + suc i = omega arith in q) ∙ s (suc i) (omega arith)) (ap (times (power m)) (s i (omega arith)) ∙ at_zero (linear_r (power m))) in
    let rest : Zeros xs = unpulled m xs (omega arith) (rw e b) o (later r a (pulled m xs) (pulled_length m xs ∙ e) (pulled_octets m xs) (omega (arith, pulled_weight m xs)) quiet) in
    let alone : times x p ≡ 0 =
    sym (xor_zero_r (times x p)) ∙ ap (bit_xor (times x p)) (sym (sum_zeros a xs rest)) ∙ ap (λ (k : ℕ). sum_at k (x ∷ xs)) (sym (add-zero a)) ∙ s 0 (omega arith) in
    (no_zero p x (power_pos (a * m)) (power_lt (a * m)) h (times_comm p x ∙ alone), rest)

few : (n : ℕ) → n ≤ 255 → Few n
few zero b r a [] e o w s = tt
few zero b r a (x ∷ xs) e o w s = absurd (omega arith)
few (suc n) b r a [] e o w s = absurd (omega arith)
few (suc n) b r a (x ∷ xs) e o w s = go (eqb x 0) refl r w s (few n (omega arith))
  where
    go : (c : Bool) → eqb x 0 ≡ c → (r : ℕ) → pick c (weight xs) (suc (weight xs)) ≤ r → Silent r a (x ∷ xs) → Few n → Zeros (x ∷ xs)
    go true z r w s later = skip n r a x xs later (eqb-true x 0 z) (omega arith) o.1 w s
    go false z zero w s later = absurd (omega arith)
    go false z (suc r) w s later = take_out n r a x xs later b (omega arith) o.0 o.1 (le_of_suc-le-suc w) s

-- a clean row with at most r bytes that are not zero is zero
pub distance : (r : ℕ) (row : List ℕ) → length row ≤ 255 → Octets row → weight row ≤ r → is_clean r row ≡ true → Zeros row
unfolding root
distance r row b o w e = few (length row) b r first_root row refl o w (λ i h. sym (value_sum (first_root + i) row o) ∙ clean_at r row e i h)
