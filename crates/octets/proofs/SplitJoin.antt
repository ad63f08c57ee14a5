-- The two word laws, over any list of widths: splitting and putting together undo each other.
-- Assumes nothing.
use mathlib.Core.Path.{◌≡◌, refl, sym, ap, ap₂, ◌∙◌}
use mathlib.Core.List.{List, [], ◌∷◌}
use Prim.Native.Nat.{ℕ, ◌+◌, ◌*◌, ◌/◌, ◌%◌, ◌^◌, ◌<◌}
use native.Mathlib.Nat.{mod-one, mod-lt, mod-eq_of_lt, mul_assoc, suc-mul, mul-le-mul_right, mul-add-div_right, mul-add-mod_self_right}
use native.Mathlib.Omega.{arith}
use lib.Dec.{lit<}
use lib.Pow.{pow_pos, pow-add, high, mod-pow-add}
use Rattle.octets.specs.Words.{total, split, join, Fit}

-- put together, the fields of a word are its lower bits, as many as the widths come to
join_low : (ks : List ℕ) (w : ℕ) → join ks (split ks w) ≡ w % 2 ^ total ks
join_low [] w = sym (mod-one w)
join_low (k ∷ ks) w = ap (λ (n : ℕ). w / 2 ^ total ks % 2 ^ k * 2 ^ total ks + n) (join_low ks w) ∙ sym (mod-pow-add w k (total ks))

pub join_split : (ks : List ℕ) (w : ℕ) → w < 2 ^ total ks → join ks (split ks w) ≡ w
join_split ks w h = join_low ks w ∙ mod-eq_of_lt h

-- each field of a word is within its width
pub split_fit : (ks : List ℕ) (w : ℕ) → Fit ks (split ks w)
split_fit [] w = tt
split_fit (k ∷ ks) w = (mod-lt (w / 2 ^ total ks) (pow_pos k), split_fit ks w)

pub join_lt : (ks vs : List ℕ) → Fit ks vs → join ks vs < 2 ^ total ks
join_lt [] [] fit = lit< tt
join_lt [] (v ∷ vs) fit = elim fit [ ]
join_lt (k ∷ ks) [] fit = elim fit [ ]
join_lt (k ∷ ks) (v ∷ vs) fit =
    let T = 2 ^ total ks in
    rw (pow-add 2 k (total ks))
    (omega (arith, join_lt ks vs fit.1, mul-le-mul_right T fit.0, suc-mul v T))

-- only the lower bits of a word count
split_low : (ks : List ℕ) (v w : ℕ) → split ks (v * 2 ^ total ks + w) ≡ split ks w
split_low [] v w = refl
split_low (k ∷ ks) v w =
    let T = total ks in
    rw (pow-add 2 k T, ← mul_assoc v (2 ^ k) (2 ^ T))
    (ap₂ ◌∷◌
    (ap (λ (n : ℕ). n % 2 ^ k) (mul-add-div_right (pow_pos T) (v * 2 ^ k) w) ∙ mul-add-mod_self_right v (2 ^ k) (w / 2 ^ T))
    (split_low ks (v * 2 ^ k) w))

pub split_join : (ks vs : List ℕ) → Fit ks vs → split ks (join ks vs) ≡ vs
split_join [] [] fit = refl
split_join [] (v ∷ vs) fit = elim fit [ ]
split_join (k ∷ ks) [] fit = elim fit [ ]
split_join (k ∷ ks) (v ∷ vs) fit =
    let l = join_lt ks vs fit.1 in
    ap₂ ◌∷◌
    (ap (λ (n : ℕ). n % 2 ^ k) (high v (total ks) l) ∙ mod-eq_of_lt fit.0)
    (split_low ks v (join ks vs) ∙ split_join ks vs fit.1)
