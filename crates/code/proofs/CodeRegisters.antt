-- Long division with the bytes that are left in the low bytes of a number. Products keep exclusive or, so the multiples of the generator are right where
-- they are right at the powers of two, which are computed.
-- Assumes nothing.
use mathlib.Core.Path.{◌≡◌, refl, sym, ap, ap₂, ◌∙◌}
use mathlib.Core.List.{List, [], ◌∷◌, ◌++◌, map}
use Prim.Native.Nat.{ℕ, zero, suc, ◌+◌, ◌-◌, ◌*◌, ◌/◌, ◌%◌, ◌^◌, ◌<◌, ◌≤◌}
use mathlib.Core.Logic.{⊎_elim}
use native.Mathlib.Nat.{div-one, mod-eq_of_lt, mod-lt, mul-mod_left, pow-suc, eq-or-lt_of_le, le_of_suc-le-suc}
use native.Mathlib.Omega.{arith}
use lib.Bits.{bit_xor, xor_lt, xor_zero_r, xor_zero_l, xor_shr, xor_mod}
use lib.Pow.{pow_pos, pow-add, shr-shr, shl-shr, field, mod-mod-pow}
use lib.ListN.{length, get_or, take, drop, replicate}
use lib.Seq.{take_all}
use Rattle.std.specs.Int.{byte_at, bytes_high_first}
use Rattle.octets.specs.Words.{total, split, bytes4, bytes8}
use Rattle.linear.proofs.Linear.{Linear, right, low, then, xor, agree_below}
use Rattle.linear.proofs.Row.{row, same}
use Rattle.field.specs.Field.{bit, scale, times}
use Rattle.field.proofs.FieldLaws.{linear_l, bit_linear, at_zero}
use Rattle.code.specs.Code.{◌⊞◌, divide}
use Rattle.code.specs.CodeClauses.{by_bits, Multiplies}

-- ---- a number's bytes
powers : (k : ℕ) → 256 ^ k ≡ 2 ^ (8 * k)
powers zero = refl
powers (suc k) = let e : 8 * suc k ≡ 8 * k + 8 = omega arith in pow-suc 256 k ∙ ap (λ (y : ℕ). y * 256) (powers k) ∙ sym (rw e (pow-add 2 (8 * k) 8))

byte_is : (i n : ℕ) → byte_at i n ≡ n / 2 ^ (8 * i) % 2 ^ 8
byte_is zero n = ap (λ (y : ℕ). y % 2 ^ 8) (sym (div-one n))
byte_is (suc i) n = ap (λ (y : ℕ). n / y % 2 ^ 8) (powers (suc i))

byte_linear : (i : ℕ) → Linear bit_xor (byte_at i)
byte_linear zero = low 8
byte_linear (suc i) = record { law = λ a b. rw (powers (suc i)) ((then (right (8 * suc i)) (low 8)).law a b) }

bytes_xor : (r a b : ℕ) → bytes_high_first r (bit_xor a b) ≡ bytes_high_first r a ⊞ bytes_high_first r b
bytes_xor zero a b = refl
bytes_xor (suc r) a b = ap₂ ◌∷◌ ((byte_linear r).law a b) (bytes_xor r a b)

pub bytes_zero : (r : ℕ) → bytes_high_first r 0 ≡ replicate r 0
bytes_zero zero = refl
bytes_zero (suc r) = ap₂ ◌∷◌ (at_zero (byte_linear r)) (bytes_zero r)

-- the lowest of a number's bytes
bytes_last : (k r n : ℕ) → r ≤ k → drop (k - r) (bytes_high_first k n) ≡ bytes_high_first r n
bytes_last zero r n h = let e : r ≡ 0 = omega arith in rw e
bytes_last (suc k) r n h =
    ⊎_elim
    (λ (e : r ≡ suc k). let z : suc k - r ≡ 0 = omega arith in rw (z, e))
    (λ (l : r < suc k). let z : suc k - r ≡ suc (k - r) = omega arith in rw z (bytes_last k r n (le_of_suc-le-suc l)))
    (eq-or-lt_of_le h)

bytes_length : (r n : ℕ) → length (bytes_high_first r n) ≡ r
bytes_length zero n = refl
bytes_length (suc r) n = ap suc (bytes_length r n)

pub stored : (r n : ℕ) (bytes after : List ℕ) → r ≤ 16 → bytes ≡ bytes_high_first 16 n → after ≡ take (16 - (16 - r)) (drop (16 - r) bytes) → after ≡ bytes_high_first r n
stored r n bytes after h e f =
    let k : 16 - (16 - r) ≡ r = omega arith in
    f ∙ rw (k, e, bytes_last 16 r n h) (take_all r (bytes_high_first r n) (omega (arith, bytes_length r n)))

-- ---- the multiples
-- the bytes of f at the powers of two, coefficient by coefficient, and the products that they should be
abbrev bytes_at : (ℕ → ℕ) → List ℕ → List (List ℕ)
bytes_at f [] = []
bytes_at f (g ∷ gs) = row (λ k. byte_at (length gs) (f (2 ^ k))) 0 8 ∷ bytes_at f gs

abbrev products_at : List ℕ → List (List ℕ)
products_at [] = []
products_at (g ∷ gs) = row (λ k. times (2 ^ k) g) 0 8 ∷ products_at gs

by_products : {f : ℕ → ℕ} → Linear bit_xor f → (gs : List ℕ) → bytes_at f gs ≡ products_at gs → (x : ℕ) → x < 2 ^ 8 → bytes_high_first (length gs) (f x) ≡ map (times x) gs
by_products p [] t x h = refl
by_products {f} p (g ∷ gs) t x h =
    ap₂ ◌∷◌
    (agree_below (then p (byte_linear (length gs))) (linear_l g) 8 (same (λ k. byte_at (length gs) (f (2 ^ k))) (λ k. times (2 ^ k) g) 8 (cc)) x h)
    (by_products p gs (cc) x h)

bits_linear : (t : List ℕ) (n : ℕ) → Linear bit_xor (by_bits t n)
bits_linear t zero = record { law = λ a b. refl }
bits_linear t (suc n) = xor (bits_linear t n) (bit_linear n (get_or t n 0))

pub multiplies : (t g : List ℕ) → bytes_at (by_bits t 8) g ≡ products_at g → Multiplies t g
multiplies t g e f h = by_products (bits_linear t 8) g e f h

-- ---- a register moved up by a byte
abbrev moved : ℕ → ℕ
moved w = w * 2 ^ 8 % 2 ^ 128

up : (w i j : ℕ) → j + 8 + 8 * i ≡ 120 → byte_at (suc i) (moved w) ≡ byte_at i w
up w i j e =
    byte_is (suc i) (moved w)
    ∙ ap (λ (y : ℕ). y % 2 ^ 8)
    (ap (λ (y : ℕ). moved w / 2 ^ y) (let n : 8 * suc i ≡ 8 + 8 * i = omega arith in n)
    ∙ sym (shr-shr (moved w) 8 (8 * i))
    ∙ ap (λ (y : ℕ). y / 2 ^ (8 * i)) (field (w * 2 ^ 8) 120 8 ∙ ap (λ (y : ℕ). y % 2 ^ 120) (shl-shr w 8) ∙ ap (λ (y : ℕ). w % 2 ^ y) (sym e))
    ∙ field w (j + 8) (8 * i))
    ∙ mod-mod-pow (w / 2 ^ (8 * i)) j 8
    ∙ sym (byte_is i w)

lowest : (w : ℕ) → byte_at 0 (moved w) ≡ 0
lowest w = mod-mod-pow (w * 2 ^ 8) 120 8 ∙ mul-mod_left w (2 ^ 8)

moved_bytes : (r w : ℕ) → r ≤ 15 → bytes_high_first (suc r) (moved w) ≡ bytes_high_first r w ++ (0 ∷ [])
moved_bytes zero w h = ap (λ (y : ℕ). y ∷ []) (lowest w)
moved_bytes (suc r) w h = ap₂ ◌∷◌ (up w r (112 - 8 * r) (omega arith)) (moved_bytes r w (omega arith))

-- ---- a coefficient more
pub divided : (r w m b : ℕ) (t g : List ℕ) → 0 < r → r ≤ 16 → b < 2 ^ 8 → length g ≡ r → Multiplies t g → m ≡ by_bits t 8 (bit_xor b (w / 2 ^ (8 * r - 8) % 256))
    → bytes_high_first r (bit_xor (moved w) m) ≡ divide g (bytes_high_first r w) b
divided zero w m b t g p h k e q z = absurd (omega arith)
divided (suc r) w m b t g p h k e q z =
    let n : 8 * suc r - 8 ≡ 8 * r = omega arith in
    let top : w / 2 ^ (8 * suc r - 8) % 256 ≡ byte_at r w = ap (λ (y : ℕ). w / 2 ^ y % 2 ^ 8) n ∙ sym (byte_is r w) in
    let f : bit_xor b (byte_at r w) < 2 ^ 8 = xor_lt 8 b (byte_at r w) k (rw (byte_is r w) (mod-lt (w / 2 ^ (8 * r)) (pow_pos 8))) in
    bytes_xor (suc r) (moved w) m
    ∙ ap₂ ◌⊞◌ (moved_bytes r w (omega arith))
    (ap (bytes_high_first (suc r)) (z ∙ ap (λ (y : ℕ). by_bits t 8 (bit_xor b y)) top) ∙ ap (λ (y : ℕ). bytes_high_first y (by_bits t 8 (bit_xor b (byte_at r w)))) (sym e) ∙ q (bit_xor b (byte_at r w)) f)

-- ---- the same over numbers split into fields: the eight parts one by one, and a word of 64 bits moved up by a byte with another behind it
abbrev pub bytes5 : List ℕ
bytes5 = 8 ∷ 8 ∷ 8 ∷ 8 ∷ 8 ∷ []

abbrev pub bytes6 : List ℕ
bytes6 = 8 ∷ bytes5

-- a byte for each coefficient
abbrev eights : List ℕ → List ℕ
eights = map (λ (g : ℕ). 8)

abbrev fields_at : (ℕ → ℕ) → List ℕ → List (List ℕ)
fields_at f [] = []
fields_at f (g ∷ gs) = row (λ k. f (2 ^ k) / 2 ^ total (eights gs) % 2 ^ 8) 0 8 ∷ fields_at f gs

multiples : {f : ℕ → ℕ} → Linear bit_xor f → (gs : List ℕ) → fields_at f gs ≡ products_at gs → (x : ℕ) → x < 2 ^ 8 → split (eights gs) (f x) ≡ map (times x) gs
multiples p [] t x h = refl
multiples {f} p (g ∷ gs) t x h =
    ap₂ (λ (y : ℕ) (ys : List ℕ). y ∷ ys)
    (agree_below (then (then p (right (total (eights gs)))) (low 8)) (linear_l g) 8 (same (λ k. f (2 ^ k) / 2 ^ total (eights gs) % 2 ^ 8) (λ k. times (2 ^ k) g) 8 (cc)) x h)
    (multiples p gs (cc) x h)

-- a constant for each of the eight bits of the argument, added as the code does
abbrev part : ℕ → ℕ → ℕ → ℕ
part c k f = scale (bit (f / 2 ^ k) 0) c

part_linear : (c k : ℕ) → Linear bit_xor (part c k)
part_linear c k = then (right k) (bit_linear 0 c)

abbrev by_eight : List ℕ → ℕ → ℕ
by_eight t f =
    bit_xor (bit_xor (bit_xor (part (get_or t 0 0) 0 f) (part (get_or t 1 0) 1 f)) (bit_xor (part (get_or t 2 0) 2 f) (part (get_or t 3 0) 3 f)))
    (bit_xor (bit_xor (part (get_or t 4 0) 4 f) (part (get_or t 5 0) 5 f)) (bit_xor (part (get_or t 6 0) 6 f) (part (get_or t 7 0) 7 f)))

eight_linear : (t : List ℕ) → Linear bit_xor (by_eight t)
eight_linear t =
    xor (xor (xor (part_linear (get_or t 0 0) 0) (part_linear (get_or t 1 0) 1)) (xor (part_linear (get_or t 2 0) 2) (part_linear (get_or t 3 0) 3)))
    (xor (xor (part_linear (get_or t 4 0) 4) (part_linear (get_or t 5 0) 5)) (xor (part_linear (get_or t 6 0) 6) (part_linear (get_or t 7 0) 7)))

-- the sum of eight such parts
pub sum_of : (t gs : List ℕ) → fields_at (by_eight t) gs ≡ products_at gs → (f p0 p1 p2 p3 p4 p5 p6 p7 : ℕ) → f < 2 ^ 8
    → p0 ≡ scale (bit f 0) (get_or t 0 0) → p1 ≡ part (get_or t 1 0) 1 f → p2 ≡ part (get_or t 2 0) 2 f → p3 ≡ part (get_or t 3 0) 3 f
    → p4 ≡ part (get_or t 4 0) 4 f → p5 ≡ part (get_or t 5 0) 5 f → p6 ≡ part (get_or t 6 0) 6 f → p7 ≡ part (get_or t 7 0) 7 f
    → split (eights gs) (bit_xor (bit_xor (bit_xor p0 p1) (bit_xor p2 p3)) (bit_xor (bit_xor p4 p5) (bit_xor p6 p7))) ≡ map (times f) gs
sum_of t gs q f p0 p1 p2 p3 p4 p5 p6 p7 h e0 e1 e2 e3 e4 e5 e6 e7 =
    ap (split (eights gs))
    (ap₂ bit_xor (ap₂ bit_xor (ap₂ bit_xor (e0 ∙ ap (λ (y : ℕ). scale (bit y 0) (get_or t 0 0)) (sym (div-one f))) e1) (ap₂ bit_xor e2 e3))
    (ap₂ bit_xor (ap₂ bit_xor e4 e5) (ap₂ bit_xor e6 e7)))
    ∙ multiples (eight_linear t) gs q f h

module _ (w c : ℕ) (h : c < 2 ^ 8) where
  abbrev joined : ℕ
  joined = bit_xor (w * 2 ^ 8 % 2 ^ 64) c

  joined_above : joined / 2 ^ 8 ≡ w % 2 ^ 56
  joined_above =
      let z : c / 2 ^ 8 ≡ 0 = omega arith in
      xor_shr (w * 2 ^ 8 % 2 ^ 64) c 8
      ∙ ap₂ bit_xor (field (w * 2 ^ 8) 56 8 ∙ ap (λ (y : ℕ). y % 2 ^ 56) (shl-shr w 8)) z
      ∙ xor_zero_r (w % 2 ^ 56)

  joined_up : (j k : ℕ) → j + 8 + k ≡ 56 → joined / 2 ^ (8 + k) % 2 ^ 8 ≡ w / 2 ^ k % 2 ^ 8
  joined_up j k e =
      ap (λ (y : ℕ). y % 2 ^ 8)
      (sym (shr-shr joined 8 k) ∙ ap (λ (y : ℕ). y / 2 ^ k) (joined_above ∙ ap (λ (y : ℕ). w % 2 ^ y) (sym e)) ∙ field w (j + 8) k)
      ∙ mod-mod-pow (w / 2 ^ k) j 8

  joined_lowest : joined / 2 ^ 0 % 2 ^ 8 ≡ c
  joined_lowest =
      let z : w * 2 ^ 8 % 2 ^ 64 % 2 ^ 8 ≡ 0 = mod-mod-pow (w * 2 ^ 8) 56 8 ∙ mul-mod_left w (2 ^ 8) in
      ap (λ (y : ℕ). y % 2 ^ 8) (div-one joined) ∙ xor_mod (w * 2 ^ 8 % 2 ^ 64) c 8 ∙ ap₂ bit_xor z (mod-eq_of_lt h) ∙ xor_zero_l c

  pub moved5 : split bytes5 joined ≡ split bytes4 w ++ (c ∷ [])
  moved5 = λ i. joined_up 24 24 refl i ∷ joined_up 32 16 refl i ∷ joined_up 40 8 refl i ∷ joined_up 48 0 refl i ∷ joined_lowest i ∷ []

  pub moved6 : split bytes6 joined ≡ split bytes5 w ++ (c ∷ [])
  moved6 = λ i. joined_up 16 32 refl i ∷ moved5 i

  pub moved8 : split bytes8 joined ≡ split (8 ∷ bytes6) w ++ (c ∷ [])
  moved8 = λ i. joined_up 0 48 refl i ∷ joined_up 8 40 refl i ∷ moved6 i
