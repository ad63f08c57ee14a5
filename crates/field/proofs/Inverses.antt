-- Every byte but 0 has an inverse, by one computed test over a list of them; so no product of two of them is 0. The powers of alpha below
-- the 255th are apart, and the 255th is the first again.
-- Assumes nothing.
use mathlib.Core.Path.{◌≡◌, refl, sym, ap, subst, ◌∙◌}
use mathlib.Core.Bool.{Bool, true, not, ◌&&◌}
use mathlib.Core.List.{List, [], ◌∷◌}
use Prim.Native.Nat.{ℕ, zero, suc, ◌+◌, ◌-◌, ◌*◌, ◌/◌, ◌%◌, ◌^◌, ◌<◌}
use native.Mathlib.Nat.{add-zero, div-add-mod', le_of_suc-le-suc, mod-lt, not-suc-le-zero}
use native.Mathlib.Omega.{arith}
use lib.Dec.{T, eqb, eqb→eq, lit<}
use lib.ListN.{length, get_or}
use Rattle.sum.specs.Sum.{bit}
use Rattle.field.specs.FieldClauses.{entry_of}
use Rattle.field.specs.Field.{twice, times_to, times, power, are_powers}
use Rattle.field.proofs.FieldLaws.{linear_l, linear_r, at_zero, times_assoc, times_comm, times_one, times_power, power_lt}
use Rattle.field.proofs.Powers.{both_left, both_right, powers_at}

-- the inverses of 1, 2, 3, ..
inverses : List ℕ
inverses = 1 ∷ 195 ∷ 130 ∷ 162 ∷ 126 ∷ 65 ∷ 90 ∷ 81 ∷ 54 ∷ 63 ∷ 172 ∷ 227 ∷ 104 ∷ 45 ∷ 42 ∷ 235 ∷ 155 ∷ 27 ∷ 53 ∷ 220 ∷ 30 ∷ 86 ∷ 165 ∷ 178 ∷ 116 ∷ 52 ∷ 18 ∷ 213 ∷ 100 ∷ 21 ∷ 221 ∷ 182 ∷ 75 ∷ 142 ∷ 251 ∷ 206 ∷ 233 ∷ 217 ∷ 161 ∷ 110 ∷ 219 ∷ 15 ∷ 44 ∷ 43 ∷ 14 ∷ 145 ∷ 241 ∷ 89 ∷ 215 ∷ 58 ∷ 244 ∷ 26 ∷ 19 ∷ 9 ∷ 80 ∷ 169 ∷ 99 ∷ 50 ∷ 245 ∷ 201 ∷ 204 ∷ 173 ∷ 10 ∷ 91 ∷ 6 ∷ 230 ∷ 247 ∷ 71 ∷ 191 ∷ 190 ∷ 68 ∷ 103 ∷ 123 ∷ 183 ∷ 33 ∷ 175 ∷ 83 ∷ 147 ∷ 255 ∷ 55 ∷ 8 ∷ 174 ∷ 77 ∷ 196 ∷ 209 ∷ 22 ∷ 164 ∷ 214 ∷ 48 ∷ 7 ∷ 64 ∷ 139 ∷ 157 ∷ 187 ∷ 140 ∷ 239 ∷ 129 ∷ 168 ∷ 57 ∷ 29 ∷ 212 ∷ 122 ∷ 72 ∷ 13 ∷ 226 ∷ 202 ∷ 176 ∷ 199 ∷ 222 ∷ 40 ∷ 218 ∷ 151 ∷ 210 ∷ 242 ∷ 132 ∷ 25 ∷ 179 ∷ 185 ∷ 135 ∷ 167 ∷ 228 ∷ 102 ∷ 73 ∷ 149 ∷ 153 ∷ 5 ∷ 163 ∷ 238 ∷ 97 ∷ 3 ∷ 194 ∷ 115 ∷ 243 ∷ 184 ∷ 119 ∷ 224 ∷ 248 ∷ 156 ∷ 92 ∷ 95 ∷ 186 ∷ 34 ∷ 250 ∷ 240 ∷ 46 ∷ 254 ∷ 78 ∷ 152 ∷ 124 ∷ 211 ∷ 112 ∷ 148 ∷ 125 ∷ 234 ∷ 17 ∷ 138 ∷ 93 ∷ 188 ∷ 236 ∷ 216 ∷ 39 ∷ 4 ∷ 127 ∷ 87 ∷ 23 ∷ 229 ∷ 120 ∷ 98 ∷ 56 ∷ 171 ∷ 170 ∷ 11 ∷ 62 ∷ 82 ∷ 76 ∷ 107 ∷ 203 ∷ 24 ∷ 117 ∷ 192 ∷ 253 ∷ 32 ∷ 74 ∷ 134 ∷ 118 ∷ 141 ∷ 94 ∷ 158 ∷ 237 ∷ 70 ∷ 69 ∷ 180 ∷ 252 ∷ 131 ∷ 2 ∷ 84 ∷ 208 ∷ 223 ∷ 108 ∷ 205 ∷ 60 ∷ 106 ∷ 177 ∷ 61 ∷ 200 ∷ 36 ∷ 232 ∷ 197 ∷ 85 ∷ 113 ∷ 150 ∷ 101 ∷ 28 ∷ 88 ∷ 49 ∷ 160 ∷ 38 ∷ 111 ∷ 41 ∷ 20 ∷ 31 ∷ 109 ∷ 198 ∷ 136 ∷ 249 ∷ 105 ∷ 12 ∷ 121 ∷ 166 ∷ 66 ∷ 246 ∷ 207 ∷ 37 ∷ 154 ∷ 16 ∷ 159 ∷ 189 ∷ 128 ∷ 96 ∷ 144 ∷ 47 ∷ 114 ∷ 133 ∷ 51 ∷ 59 ∷ 231 ∷ 67 ∷ 137 ∷ 225 ∷ 143 ∷ 35 ∷ 193 ∷ 181 ∷ 146 ∷ 79 ∷ []

-- each entry, times its number from a on, is 1
abbrev are_inverses : ℕ → List ℕ → Bool
are_inverses a [] = true
are_inverses a (b ∷ bs) = eqb (times a b) 1 && are_inverses (suc a) bs

inverse_at : (a : ℕ) (bs : List ℕ) → T (are_inverses a bs) → (k : ℕ) → k < length bs → times (a + k) (get_or bs k 0) ≡ 1
inverse_at a [] t k h = absurd (not-suc-le-zero h)
inverse_at a (b ∷ bs) t zero h = rw add-zero (eqb→eq (times a b) 1 (both_left (eqb (times a b) 1) (are_inverses (suc a) bs) t))
inverse_at a (b ∷ bs) t (suc k) h =
    ap (λ (n : ℕ). times n (get_or bs k 0)) (let e : a + suc k ≡ suc a + k = omega arith in e)
    ∙ inverse_at (suc a) bs (both_right (eqb (times a b) 1) (are_inverses (suc a) bs) t) k (le_of_suc-le-suc h)

-- the inverse of a
pub inverse : ℕ → ℕ
inverse a = get_or inverses (a - 1) 0

pub times_inverse : (a : ℕ) → 0 < a → a < 2 ^ 8 → times a (inverse a) ≡ 1
unfolding inverse inverses times times_to twice bit
times_inverse a h l =
    ap (λ (n : ℕ). times n (get_or inverses (a - 1) 0)) (let e : a ≡ 1 + (a - 1) = omega arith in e)
    ∙ inverse_at 1 inverses tt (a - 1) (omega arith)

-- no product of two bytes that are not 0 is 0
pub no_zero : (a b : ℕ) → 0 < a → a < 2 ^ 8 → b < 2 ^ 8 → times a b ≡ 0 → b ≡ 0
no_zero a b h l m e =
    let i = inverse a in
    sym (times_one b m)
    ∙ ap (times b) (sym (times_inverse a h l) ∙ times_comm a i)
    ∙ times_comm b (times i a)
    ∙ sym (times_assoc i a b)
    ∙ ap (times i) e
    ∙ at_zero (linear_r i)

-- the 255th power is 1, so the powers come round
full : power 255 ≡ 1
unfolding power twice bit
full = refl

rounds : (q n : ℕ) → power (q * 255 + n) ≡ power n
rounds zero n = ap power (let e : 0 * 255 + n ≡ n = omega arith in e)
rounds (suc q) n =
    ap power (let e : suc q * 255 + n ≡ q * 255 + n + 255 = omega arith in e)
    ∙ sym (times_power (q * 255 + n) 255)
    ∙ ap (times (power (q * 255 + n))) full
    ∙ times_one (power (q * 255 + n)) (power_lt (q * 255 + n))
    ∙ rounds q n

power_round : (n : ℕ) → power (n % 255) ≡ power n
power_round n = sym (rounds (n / 255) (n % 255)) ∙ ap power (div-add-mod' n 255)

-- a table of 255 powers gives every one
pub table_at : (xs : List ℕ) → T (are_powers xs) → length xs ≡ 255 → (n : ℕ) → entry_of xs n ≡ power n
unfolding entry_of
table_at xs t e n = powers_at xs t (n % 255) (rw e (mod-lt n (lit< tt))) ∙ power_round n

-- no power is 0: it has an inverse among the powers
first : power 0 ≡ 1
unfolding power
first = refl

pub power_pos : (n : ℕ) → 0 < power n
power_pos n = go (power n) refl
  where
    go : (x : ℕ) → power n ≡ x → 0 < x
    go zero e =
        absurd (let r = n * 254 in
        let s : n + n * 254 ≡ n * 255 + 0 = omega arith in
        let t : power (n + r) ≡ 1 = rw s (rounds n 0 ∙ first) in
        let z : power (n + r) ≡ 0 = sym (times_power n r) ∙ ap (λ (y : ℕ). times y (power r)) e ∙ at_zero (linear_l (power r)) in
        let c : ◌≡◌ {A = ℕ} 1 0 = sym t ∙ z in
        omega arith)
    go (suc x) e = omega arith

-- ---- the powers below the 255th are apart
abbrev none_one : ℕ → ℕ → Bool
none_one x zero = true
none_one x (suc n) = not (eqb x 1) && none_one (twice x) n

none_one_lem : (m n : ℕ) → T (none_one (power m) n) → (k : ℕ) → k < n → power (m + k) ≡ 1 → ⊥
unfolding power
none_one_lem m zero t k h e = absurd (not-suc-le-zero h)
none_one_lem m (suc n) t zero h e =
    let a = both_left (not (eqb (power m) 1)) (none_one (twice (power m)) n) t in
    let x : power m ≡ 1 = rw add-zero at e in
    subst (λ (y : ℕ). T (not (eqb y 1))) x a
none_one_lem m (suc n) t (suc k) h e =
    none_one_lem (suc m) n (both_right (not (eqb (power m) 1)) (none_one (twice (power m)) n) t) k (le_of_suc-le-suc h)
    (ap power (let q : suc m + k ≡ m + suc k = omega arith in q) ∙ e)

not-one : (k : ℕ) → 0 < k → k < 255 → power k ≡ 1 → ⊥
unfolding power twice bit
not-one k h l e = none_one_lem 1 254 tt (k - 1) (omega arith) (ap power (let q : 1 + (k - 1) ≡ k = omega arith in q) ∙ e)

pub powers_apart : (m n : ℕ) → m < n → n < 255 → power m ≡ power n → ⊥
powers_apart m n h l e =
    let d = n - m in
    let i = inverse (power m) in
    let s : power n ≡ times (power m) (power d) = ap power (let q : n ≡ m + d = omega arith in q) ∙ sym (times_power m d) in
    let one = times_inverse (power m) (power_pos m) (power_lt m) in
    let back : power d ≡ 1 =
    sym (times_one (power d) (power_lt d))
    ∙ ap (times (power d)) (sym one)
    ∙ times_assoc (power d) (power m) i
    ∙ ap (λ (x : ℕ). times x i) (times_comm (power d) (power m) ∙ sym s ∙ sym e)
    ∙ one in
    not-one d (omega arith) (omega arith) back
