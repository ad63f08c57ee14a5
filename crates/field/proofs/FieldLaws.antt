-- The laws of the field: products keep sums in each factor, so a law of products holds where it holds at the powers of two, which are computed.
-- Assumes nothing.
use mathlib.Core.Path.{◌≡◌, refl, sym, ap, ap₂, ◌∙◌}
use mathlib.Core.Bool.{Bool, true, false}
use mathlib.Core.List.{List}
use Prim.Native.Nat.{ℕ, zero, suc, ◌+◌, ◌*◌, ◌/◌, ◌%◌, ◌^◌, ◌<◌}
use native.Mathlib.Nat.{mod-mod, mod-lt, mod-eq_of_lt, div-one, add-zero, add-suc}
use native.Mathlib.Numerals.{add-one}
use native.Mathlib.Omega.{arith}
use lib.Bits.{bit_xor, xor_self, xor_zero_r, xor_lt}
use lib.Dec.{eqb, lit<}
use lib.Pow.{pow_pos, field, mod-mod-pow}
use Rattle.sum.specs.Sum.{◌⊕◌, bit}
use Rattle.sum.proofs.Bits.{bit_xor_lem}
use Rattle.linear.proofs.Linear.{Linear, itself, right, low, left, then, xor, agree_below}
use Rattle.linear.proofs.Row.{row, same}
use Rattle.field.specs.Field.{scale, x⁸, twice, times_to, times, power}

scale_xor : (p q : Bool) (a : ℕ) → scale (p ⊕ q) a ≡ bit_xor (scale p a) (scale q a)
scale_xor false q a = refl
scale_xor true false a = sym (xor_zero_r a)
scale_xor true true a = sym (xor_self a)

-- a bit of the argument, times a fixed number
pub bit_linear : (k a : ℕ) → Linear bit_xor (λ x. scale (bit x k) a)
bit_linear k a = record { law = λ x y. ap (λ (p : Bool). scale p a) (bit_xor_lem x y k) ∙ scale_xor (bit x k) (bit y k) a }

-- a fixed coefficient, times the argument
scale_linear : (p : Bool) → Linear bit_xor (scale p)
scale_linear true = itself
scale_linear false = record { law = λ x y. refl }

pub twice_linear : Linear bit_xor twice
unfolding twice
twice_linear = xor (left 8 1) (bit_linear 7 x⁸)

to_linear_l : (n b : ℕ) → Linear bit_xor (λ a. times_to n a b)
unfolding times_to
to_linear_l zero b = record { law = λ x y. refl }
to_linear_l (suc n) b = xor (then (to_linear_l n (b / 2 ^ 1)) twice_linear) (then (low 8) (scale_linear (bit b 0)))

to_linear_r : (n a : ℕ) → Linear bit_xor (times_to n a)
unfolding times_to
to_linear_r zero a = record { law = λ x y. refl }
to_linear_r (suc n) a = xor (then (then (right 1) (to_linear_r n a)) twice_linear) (bit_linear 0 (a % 2 ^ 8))

pub linear_l : (b : ℕ) → Linear bit_xor (λ a. times a b)
unfolding times
linear_l b = to_linear_l 8 b

pub linear_r : (a : ℕ) → Linear bit_xor (times a)
unfolding times
linear_r a = to_linear_r 8 a

-- two functions that keep sums in each of two arguments agree on bytes where they agree at the powers of two
pub record Bilinear (f : ℕ → ℕ → ℕ) : Type 0 where
  pub first : (b : ℕ) → Linear bit_xor (λ a. f a b)
  pub second : (a : ℕ) → Linear bit_xor (f a)

abbrev pub corners : (ℕ → ℕ → ℕ) → List ℕ
corners f = row (λ n. f (2 ^ (n / 8)) (2 ^ (n % 8))) 0 64

corner : (f g : ℕ → ℕ → ℕ) → corners f ≡ corners g → (i j : ℕ) → i < 8 → j < 8 → f (2 ^ i) (2 ^ j) ≡ g (2 ^ i) (2 ^ j)
corner f g e i j h l =
    let n = i * 8 + j in
    let q : n / 8 ≡ i = omega arith in
    let r : n % 8 ≡ j = omega arith in
    let s : f (2 ^ (n / 8)) (2 ^ (n % 8)) ≡ g (2 ^ (n / 8)) (2 ^ (n % 8)) =
    same (λ n. f (2 ^ (n / 8)) (2 ^ (n % 8))) (λ n. g (2 ^ (n / 8)) (2 ^ (n % 8))) 64 e n (omega arith) in
    rw (q, r) at s

pub agree2 : {f g : ℕ → ℕ → ℕ} → Bilinear f → Bilinear g → corners f ≡ corners g → (a b : ℕ) → a < 2 ^ 8 → b < 2 ^ 8 → f a b ≡ g a b
agree2 {f} {g} p q e a b h l =
    agree_below (p.first b) (q.first b) 8 (λ i s. agree_below (p.second (2 ^ i)) (q.second (2 ^ i)) 8 (λ j t. corner f g e i j s t) b l) a h

pub bilinear : Bilinear times
bilinear = record { first = linear_l; second = linear_r }

-- only the lower eight bits of each factor count
low_l : (n a b : ℕ) → times_to n (a % 2 ^ 8) b ≡ times_to n a b
unfolding times_to
low_l zero a b = refl
low_l (suc n) a b = rw (low_l n a (b / 2 ^ 1), mod-mod a (2 ^ 8))

low_bit : (n b : ℕ) → bit (b % 2 ^ suc n) 0 ≡ bit b 0
unfolding bit
low_bit n b = let e : b % 2 ^ suc n % 2 ^ 1 ≡ b % 2 ^ 1 = rw (← add-one n) (mod-mod-pow b n 1) in simp div-one (ap (λ (d : ℕ). eqb d 1) e)

low_half : (n b : ℕ) → b % 2 ^ suc n / 2 ^ 1 ≡ b / 2 ^ 1 % 2 ^ n
low_half n b = rw (← add-one n) (field b n 1)

low_r : (n a b : ℕ) → times_to n a (b % 2 ^ n) ≡ times_to n a b
unfolding times_to
low_r zero a b = refl
low_r (suc n) a b =
    ap₂ (λ (u : ℕ) (p : Bool). bit_xor (twice u) (scale p (a % 2 ^ 8))) (ap (times_to n a) (low_half n b) ∙ low_r n a (b / 2 ^ 1)) (low_bit n b)

pub times_low : (a b : ℕ) → times (a % 2 ^ 8) (b % 2 ^ 8) ≡ times a b
unfolding times
times_low a b = low_l 8 a (b % 2 ^ 8) ∙ low_r 8 a b

-- the laws of products, first on bytes, then for every number
twice_out_at : (a b : ℕ) → a < 2 ^ 8 → b < 2 ^ 8 → times a (twice b) ≡ twice (times a b)
unfolding times times_to twice bit
twice_out_at =
    agree2
    (record { first = λ b. linear_l (twice b); second = λ a. then twice_linear (linear_r a) })
    (record { first = λ b. then (linear_l b) twice_linear; second = λ a. then (linear_r a) twice_linear })
    refl

comm_at : (a b : ℕ) → a < 2 ^ 8 → b < 2 ^ 8 → times a b ≡ times b a
unfolding times times_to twice bit
comm_at = agree2 bilinear (record { first = linear_r; second = linear_l }) refl

twice_low : (b : ℕ) → twice (b % 2 ^ 8) ≡ twice b
unfolding twice bit
twice_low b =
    ap₂ (λ (u v : ℕ). bit_xor u (scale (eqb v 1) x⁸))
    (let e : b % 256 * 2 % 256 ≡ b * 2 % 256 = omega arith in e)
    (let e : b % 256 / 128 % 2 ≡ b / 128 % 2 = omega arith in e)

pub low_left : (a b : ℕ) → times (a % 2 ^ 8) b ≡ times a b
unfolding times
low_left a b = low_l 8 a b

low_right : (a b : ℕ) → times a (b % 2 ^ 8) ≡ times a b
unfolding times
low_right a b = low_r 8 a b

byte_lt : (a : ℕ) → a % 2 ^ 8 < 2 ^ 8
byte_lt a = mod-lt a (pow_pos 8)

pub twice_out : (a b : ℕ) → times a (twice b) ≡ twice (times a b)
twice_out a b =
    sym (ap (times a) (twice_low b)) ∙ sym (low_left a (twice (b % 2 ^ 8)))
    ∙ twice_out_at (a % 2 ^ 8) (b % 2 ^ 8) (byte_lt a) (byte_lt b)
    ∙ ap twice (times_low a b)

pub times_comm : (a b : ℕ) → times a b ≡ times b a
times_comm a b =
    sym (times_low a b) ∙ comm_at (a % 2 ^ 8) (b % 2 ^ 8) (byte_lt a) (byte_lt b) ∙ times_low b a

scale_lt : (p : Bool) {a : ℕ} → a < 2 ^ 8 → scale p a < 2 ^ 8
scale_lt true h = h
scale_lt false h = pow_pos 8

pub twice_lt : (a : ℕ) → twice a < 2 ^ 8
unfolding twice
twice_lt a = xor_lt 8 _ _ (byte_lt (a * 2 ^ 1)) (scale_lt (bit a 7) (lit< tt))

to_lt : (n a b : ℕ) → times_to n a b < 2 ^ 8
unfolding times_to
to_lt zero a b = pow_pos 8
to_lt (suc n) a b = xor_lt 8 _ _ (twice_lt (times_to n a (b / 2 ^ 1))) (scale_lt (bit b 0) (byte_lt a))

pub times_lt : (a b : ℕ) → times a b < 2 ^ 8
unfolding times
times_lt a b = to_lt 8 a b

pub at_zero : {f : ℕ → ℕ} → Linear bit_xor f → f 0 ≡ 0
at_zero {f} p = p.law 0 0 ∙ xor_self (f 0)

times_scale : (a : ℕ) (p : Bool) (b : ℕ) → times a (scale p (b % 2 ^ 8)) ≡ scale p (times a b % 2 ^ 8)
times_scale a true b = low_right a b ∙ sym (mod-eq_of_lt (times_lt a b))
times_scale a false b = at_zero (linear_r a)

assoc_to : (n a b c : ℕ) → times a (times_to n b c) ≡ times_to n (times a b) c
unfolding times_to
assoc_to zero a b c = at_zero (linear_r a)
assoc_to (suc n) a b c =
    (linear_r a).law (twice (times_to n b (c / 2 ^ 1))) (scale (bit c 0) (b % 2 ^ 8))
    ∙ ap₂ bit_xor (twice_out a (times_to n b (c / 2 ^ 1)) ∙ ap twice (assoc_to n a b (c / 2 ^ 1))) (times_scale a (bit c 0) b)

pub times_assoc : (a b c : ℕ) → times a (times b c) ≡ times (times a b) c
unfolding times
times_assoc a b c = assoc_to 8 a b c

pub times_one : (a : ℕ) → a < 2 ^ 8 → times a 1 ≡ a
unfolding times times_to twice bit
times_one = agree_below (linear_l 1) itself 8 (same (λ k. times (2 ^ k) 1) (λ k. 2 ^ k) 8 refl)

pub power_lt : (n : ℕ) → power n < 2 ^ 8
unfolding power
power_lt zero = lit< tt
power_lt (suc n) = twice_lt (power n)

-- products of powers: the exponents add
pub times_power : (m n : ℕ) → times (power m) (power n) ≡ power (m + n)
unfolding power
times_power m zero = rw add-zero (times_one (power m) (power_lt m))
times_power m (suc n) = twice_out (power m) (power n) ∙ rw add-suc (ap twice (times_power m n))
