-- The laws of the code: sums of clean rows are clean; information followed by its check bytes is clean.
-- Assumes nothing.
use mathlib.Core.Path.{◌≡◌, refl, sym, ap, ap₂, ◌∙◌}
use mathlib.Core.Bool.{true}
use mathlib.Core.List.{List, [], ◌∷◌, ◌++◌, map}
use Prim.Native.Nat.{ℕ, zero, suc, ◌+◌, ◌*◌, ◌%◌, ◌^◌, ◌<◌}
use native.Mathlib.Nat.{mod-lt, eq-or-lt_of_le, le_of_suc-le-suc, mul-zero, mul-suc}
use mathlib.Core.Logic.{⊎_elim}
use native.Mathlib.Omega.{arith}
use lib.Bits.{bit_xor, xor_self, xor_zero_r, xor_zero_l, xor_comm}
use lib.Dec.{eqb}
use lib.ListN.{length, replicate, length-append, length-map, length-replicate}
use lib.Pow.{pow_pos}
use borrow.Author.Tests.{eqb-true, eq-eqb}
use Rattle.octets.proofs.Deciding.{both}
use Rattle.linear.proofs.Linear.{Linear, itself, then}
use Rattle.linear.proofs.Xor.{xor_assoc, xor_cross}
use Rattle.field.specs.Field.{times, power}
use Rattle.field.proofs.FieldLaws.{linear_l, linear_r, at_zero, times_assoc, times_comm, times_one, times_lt, times_power, low_left}
use Rattle.code.specs.Code.{◌⊞◌, horner, value_at, root, is_clean, generator, lower, divide, remainder, check_bytes}

-- ---- the linear law
pub horner_sum : (z u v : ℕ) (xs ys : List ℕ) → length xs ≡ length ys → horner z (bit_xor u v) (xs ⊞ ys) ≡ bit_xor (horner z u xs) (horner z v ys)
horner_sum z u v [] [] e = refl
horner_sum z u v [] (b ∷ ys) e = absurd (omega arith)
horner_sum z u v (a ∷ xs) [] e = absurd (omega arith)
horner_sum z u v (a ∷ xs) (b ∷ ys) e =
    ap (λ (w : ℕ). horner z w (xs ⊞ ys))
    (ap (λ (w : ℕ). bit_xor w (bit_xor a b)) ((linear_l z).law u v) ∙ xor_cross (times u z) (times v z) a b)
    ∙ horner_sum z (bit_xor (times u z) a) (bit_xor (times v z) b) xs ys (omega arith)

pub clean_sum : (r : ℕ) (xs ys : List ℕ) → length xs ≡ length ys → is_clean r xs ≡ true → is_clean r ys ≡ true → is_clean r (xs ⊞ ys) ≡ true
clean_sum zero xs ys e p q = refl
clean_sum (suc r) xs ys e p q =
    let s = both (is_clean r xs) (eqb (value_at (root r) xs) 0) p in
    let t = both (is_clean r ys) (eqb (value_at (root r) ys) 0) q in
    let v : value_at (root r) (xs ⊞ ys) ≡ 0 =
    horner_sum (root r) 0 0 xs ys e ∙ ap₂ bit_xor (eqb-true (value_at (root r) xs) 0 s.1) (eqb-true (value_at (root r) ys) 0 t.1) in
    rw (clean_sum r xs ys e s.0 t.0) (eq-eqb (value_at (root r) (xs ⊞ ys)) 0 v)

-- ---- v times z^n
pub lift : ℕ → ℕ → ℕ → ℕ
lift z zero v = v
lift z (suc n) v = lift z n (times v z)

lift_linear : (z n : ℕ) → Linear bit_xor (lift z n)
unfolding lift
lift_linear z zero = itself
lift_linear z (suc n) = then (linear_l z) (lift_linear z n)

lift_out : (z n v : ℕ) → lift z n (times v z) ≡ times (lift z n v) z
unfolding lift
lift_out z zero v = refl
lift_out z (suc n) v = lift_out z n (times v z)

lift_scale : (z n f v : ℕ) → times f (lift z n v) ≡ lift z n (times f v)
unfolding lift
lift_scale z zero f v = refl
lift_scale z (suc n) f v = lift_scale z n f (times v z) ∙ ap (lift z n) (times_assoc f v z)

-- of v only the byte counts, unless n is 0
pub lift_power : (k n v : ℕ) → v < 2 ^ 8 → lift (power k) n v ≡ times v (power (k * n))
unfolding lift power
lift_power k zero v h = sym (rw mul-zero (times_one v h))
lift_power k (suc n) v h =
    lift_power k n (times v (power k)) (times_lt v (power k))
    ∙ sym (times_assoc v (power k) (power (k * n)))
    ∙ ap (times v) (times_power k (k * n) ∙ ap power (let e : k + k * n ≡ k * suc n = rw mul-suc (omega arith) in e))

-- of f only the byte counts
lift_byte : (z n f : ℕ) → lift z (suc n) (times f 1) ≡ lift z (suc n) f
unfolding lift
lift_byte z n f =
    ap (lift z n) (ap (λ (w : ℕ). times w z) (sym (low_left f 1) ∙ times_one (f % 2 ^ 8) (mod-lt f (pow_pos 8))) ∙ low_left f z)

-- ---- Horner's rule: a start, a multiple, rows joined
from_zero : (z b : ℕ) → bit_xor (times 0 z) b ≡ b
from_zero z b = ap (λ (w : ℕ). bit_xor w b) (at_zero (linear_l z)) ∙ xor_zero_l b

pub horner_start : (z v : ℕ) (xs : List ℕ) → horner z v xs ≡ bit_xor (lift z (length xs) v) (horner z 0 xs)
unfolding lift
horner_start z v [] = sym (xor_zero_r v)
horner_start z v (x ∷ xs) =
    let n = length xs in
    horner_start z (bit_xor (times v z) x) xs
    ∙ ap (λ (w : ℕ). bit_xor w (horner z 0 xs)) ((lift_linear z n).law (times v z) x)
    ∙ xor_assoc (lift z n (times v z)) (lift z n x) (horner z 0 xs)
    ∙ ap (bit_xor (lift z n (times v z))) (sym (horner_start z x xs) ∙ ap (λ (w : ℕ). horner z w xs) (sym (from_zero z x)))

horner_scale : (z f v : ℕ) (xs : List ℕ) → horner z (times f v) (map (times f) xs) ≡ times f (horner z v xs)
horner_scale z f v [] = refl
horner_scale z f v (x ∷ xs) =
    ap (λ (w : ℕ). horner z w (map (times f) xs))
    (ap (λ (w : ℕ). bit_xor w (times f x)) (sym (times_assoc f v z)) ∙ sym ((linear_r f).law (times v z) x))
    ∙ horner_scale z f (bit_xor (times v z) x) xs

pub horner_append : (z v : ℕ) (xs ys : List ℕ) → horner z v (xs ++ ys) ≡ horner z (horner z v xs) ys
horner_append z v [] ys = refl
horner_append z v (x ∷ xs) ys = horner_append z (bit_xor (times v z) x) xs ys

xor_move : (a b c : ℕ) → bit_xor a b ≡ c → b ≡ bit_xor a c
xor_move a b c e = sym (xor_zero_l b) ∙ sym (ap (λ (w : ℕ). bit_xor w b) (xor_self a)) ∙ xor_assoc a a b ∙ ap (bit_xor a) e

regroup : (a b c : ℕ) → bit_xor (bit_xor a b) (bit_xor c a) ≡ bit_xor b c
regroup a b c =
    ap₂ bit_xor (xor_comm a b) (xor_comm c a) ∙ xor_assoc b a (bit_xor a c)
    ∙ ap (bit_xor b) (sym (xor_assoc a a c) ∙ ap (λ (w : ℕ). bit_xor w c) (xor_self a) ∙ xor_zero_l c)

pub length-sum : (xs ys : List ℕ) → length xs ≡ length ys → length (xs ⊞ ys) ≡ length ys
length-sum [] ys e = e
length-sum (x ∷ xs) [] e = refl
length-sum (x ∷ xs) (y ∷ ys) e = ap suc (length-sum xs ys (omega arith))

-- ---- long division by x^(n + 1) + g, of which z is a root
module _ (z n : ℕ) (g : List ℕ) (size : length g ≡ suc n) (is_root : value_at z (1 ∷ g) ≡ 0) where
  low_value : horner z 0 g ≡ lift z (suc n) 1
  low_value =
      xor_move (lift z (suc n) 1) (horner z 0 g) 0
      (ap (λ (k : ℕ). bit_xor (lift z k 1) (horner z 0 g)) (sym size) ∙ sym (horner_start z 1 g) ∙ ap (λ (w : ℕ). horner z w g) (sym (from_zero z 1)) ∙ is_root)
      ∙ xor_zero_r (lift z (suc n) 1)

  multiple : (f : ℕ) → horner z 0 (map (times f) g) ≡ lift z (suc n) f
  multiple f =
      ap (λ (w : ℕ). horner z w (map (times f) g)) (sym (at_zero (linear_r f)))
      ∙ horner_scale z f 0 g ∙ ap (times f) low_value ∙ lift_scale z (suc n) f 1 ∙ lift_byte z n f

  -- what is left has, at the root, the value of what was taken in times z^(n + 1)
  record Left (v : ℕ) (rest : List ℕ) : Type 0 where
    long : length rest ≡ suc n
    value : lift z (suc n) v ≡ horner z 0 rest

  shifted : (v r : ℕ) (rs : List ℕ) → Left v (r ∷ rs) → horner z 0 (rs ++ (0 ∷ [])) ≡ bit_xor (lift z (suc n) r) (lift z (suc n) (times v z))
  shifted v r rs h =
      let k : length (rs ++ (0 ∷ [])) ≡ suc n = length-append rs (0 ∷ []) ∙ omega (arith, h.long) in
      let whole : horner z r (rs ++ (0 ∷ [])) ≡ lift z (suc n) (times v z) =
      horner_append z r rs (0 ∷ [])
      ∙ xor_zero_r (times (horner z r rs) z)
      ∙ ap (λ (w : ℕ). times (horner z w rs) z) (sym (from_zero z r))
      ∙ ap (λ (w : ℕ). times w z) (sym h.value)
      ∙ sym (lift_out z (suc n) v) in
      let start : horner z r (rs ++ (0 ∷ [])) ≡ bit_xor (lift z (suc n) r) (horner z 0 (rs ++ (0 ∷ []))) =
      horner_start z r (rs ++ (0 ∷ [])) ∙ ap (λ (m : ℕ). bit_xor (lift z m r) (horner z 0 (rs ++ (0 ∷ [])))) k in
      xor_move (lift z (suc n) r) (horner z 0 (rs ++ (0 ∷ []))) (lift z (suc n) (times v z)) (sym start ∙ whole)

  divided : (v b r : ℕ) (rs : List ℕ) → Left v (r ∷ rs) → Left (bit_xor (times v z) b) (divide g (r ∷ rs) b)
  divided v b r rs h =
      let f = bit_xor b r in
      let k : length (rs ++ (0 ∷ [])) ≡ suc n = length-append rs (0 ∷ []) ∙ omega (arith, h.long) in
      let l : length (map (times f) g) ≡ suc n = length-map g (times f) ∙ size in
      let m : length (rs ++ (0 ∷ [])) ≡ length (map (times f) g) = k ∙ sym l in
      record {
        long = length-sum (rs ++ (0 ∷ [])) (map (times f) g) m ∙ l;
        value =
            (lift_linear z (suc n)).law (times v z) b
            ∙ sym (regroup (lift z (suc n) r) (lift z (suc n) (times v z)) (lift z (suc n) b))
            ∙ sym (horner_sum z 0 0 (rs ++ (0 ∷ [])) (map (times f) g) m
            ∙ ap₂ bit_xor (shifted v r rs h) (multiple f ∙ (lift_linear z (suc n)).law b r));
      }

  left_after : (v : ℕ) (rest info : List ℕ) → Left v rest → Left (horner z v info) (remainder g rest info)
  left_after v rest [] h = h
  left_after v [] (b ∷ info) h = absurd (omega (arith, h.long))
  left_after v (r ∷ rs) (b ∷ info) h = left_after (bit_xor (times v z) b) (divide g (r ∷ rs) b) info (divided v b r rs h)

  zeros : (k : ℕ) → horner z 0 (replicate k 0) ≡ 0
  zeros zero = refl
  zeros (suc k) = ap (λ (w : ℕ). horner z w (replicate k 0)) (from_zero z 0) ∙ zeros k

  pub left_length : (info : List ℕ) → length (remainder g (replicate (suc n) 0) info) ≡ suc n
  left_length info =
      (left_after 0 (replicate (suc n) 0) info (record { long = length-replicate (suc n) 0; value = at_zero (lift_linear z (suc n)) ∙ sym (zeros (suc n)) })).long

  pub checked : (info : List ℕ) → value_at z (info ++ remainder g (replicate (suc n) 0) info) ≡ 0
  checked info =
      let h = left_after 0 (replicate (suc n) 0) info (record { long = length-replicate (suc n) 0; value = at_zero (lift_linear z (suc n)) ∙ sym (zeros (suc n)) }) in
      let rest = remainder g (replicate (suc n) 0) info in
      horner_append z 0 info rest
      ∙ horner_start z (horner z 0 info) rest
      ∙ ap (λ (m : ℕ). bit_xor (lift z m (horner z 0 info)) (horner z 0 rest)) h.long
      ∙ ap (λ (w : ℕ). bit_xor w (horner z 0 rest)) h.value
      ∙ xor_self (horner z 0 rest)

-- ---- the generator: its first coefficient is 1, and each root is a root of it
monic : (r : ℕ) → generator r ≡ 1 ∷ lower r
unfolding generator
monic zero = refl
monic (suc r) = rw (monic r)

sides : (r : ℕ) → length (generator r ++ (0 ∷ [])) ≡ length (0 ∷ map (times (root r)) (generator r))
sides r = rw (length-append (generator r) (0 ∷ []), length-map (generator r) (times (root r))) (omega arith)

generator_length : (r : ℕ) → length (generator r) ≡ suc r
unfolding generator
generator_length zero = refl
generator_length (suc r) =
    length-sum (generator r ++ (0 ∷ [])) (0 ∷ map (times (root r)) (generator r)) (sides r)
    ∙ ap suc (length-map (generator r) (times (root r)) ∙ generator_length r)

one_more : (z r : ℕ) → value_at z (generator (suc r)) ≡ bit_xor (times (value_at z (generator r)) z) (times (root r) (value_at z (generator r)))
unfolding generator
one_more z r =
    horner_sum z 0 0 (generator r ++ (0 ∷ [])) (0 ∷ map (times (root r)) (generator r)) (sides r)
    ∙ ap₂ bit_xor
    (horner_append z 0 (generator r) (0 ∷ []) ∙ xor_zero_r (times (value_at z (generator r)) z))
    (ap (λ (w : ℕ). horner z w (map (times (root r)) (generator r))) (from_zero z 0 ∙ sym (at_zero (linear_r (root r)))) ∙ horner_scale z (root r) 0 (generator r))

pub is_root : (r i : ℕ) → i < r → value_at (root i) (generator r) ≡ 0
is_root zero i h = absurd (omega arith)
is_root (suc r) i h =
    one_more (root i) r
    ∙ ⊎_elim
    (λ (e : i ≡ r).
    rw e (ap (λ (w : ℕ). bit_xor w (times (root r) (value_at (root r) (generator r)))) (times_comm (value_at (root r) (generator r)) (root r))
    ∙ xor_self (times (root r) (value_at (root r) (generator r)))))
    (λ (l : i < r).
    let v = is_root r i l in
    rw v (ap₂ bit_xor (at_zero (linear_l (root i))) (at_zero (linear_r (root r)))))
    (eq-or-lt_of_le (le_of_suc-le-suc h))

clean_by : (r : ℕ) (row : List ℕ) → ((i : ℕ) → i < r → value_at (root i) row ≡ 0) → is_clean r row ≡ true
clean_by zero row h = refl
clean_by (suc r) row h = rw (clean_by r row (λ i l. h i (omega arith))) (eq-eqb (value_at (root r) row) 0 (h r (omega arith)))

-- a clean row's value is zero at each root
pub clean_at : (r : ℕ) (row : List ℕ) → is_clean r row ≡ true → (i : ℕ) → i < r → value_at (root i) row ≡ 0
clean_at zero row e i h = absurd (omega arith)
clean_at (suc r) row e i h =
    let q = both (is_clean r row) (eqb (value_at (root r) row) 0) e in
    ⊎_elim
    (λ (z : i ≡ r). rw z (eqb-true (value_at (root r) row) 0 q.1))
    (λ (l : i < r). clean_at r row q.0 i l)
    (eq-or-lt_of_le (le_of_suc-le-suc h))

lower_length : (n : ℕ) → length (lower (suc n)) ≡ suc n
lower_length n = let e = ap length (monic (suc n)) in omega (arith, generator_length (suc n))

lower_root : (n i : ℕ) → i < suc n → value_at (root i) (1 ∷ lower (suc n)) ≡ 0
lower_root n i h = ap (value_at (root i)) (sym (monic (suc n))) ∙ is_root (suc n) i h

pub check_length : (n : ℕ) (info : List ℕ) → length (check_bytes (suc n) info) ≡ suc n
unfolding check_bytes
check_length n info = left_length (root 0) n (lower (suc n)) (lower_length n) (lower_root n 0 (omega arith)) info

-- information followed by its check bytes is clean
pub checked_clean : (n : ℕ) (info : List ℕ) → is_clean (suc n) (info ++ check_bytes (suc n) info) ≡ true
unfolding check_bytes
checked_clean n info =
    clean_by (suc n) (info ++ check_bytes (suc n) info)
    (λ i h. checked (root i) n (lower (suc n)) (lower_length n) (lower_root n i h) info)
