-- A table of powers: what the one test over the whole table gives at each entry.
-- Assumes nothing.
use mathlib.Core.Path.{◌≡◌, sym, ap, subst, ◌∙◌}
use mathlib.Core.Bool.{Bool, true, false, ◌&&◌}
use mathlib.Core.List.{List, [], ◌∷◌}
use Prim.Native.Nat.{ℕ, zero, suc, ◌+◌, ◌<◌}
use native.Mathlib.Nat.{add-zero, add-suc, suc-add, le_of_suc-le-suc, not-suc-le-zero}
use native.Mathlib.Omega.{arith}
use lib.Dec.{T, eqb, eqb→eq}
use lib.ListN.{length, get_or}
use Rattle.field.specs.Field.{twice, power, follows, are_powers}

pub both_left : (a b : Bool) → T (a && b) → T a
both_left true b t = tt
both_left false b t = t

pub both_right : (a b : Bool) → T (a && b) → T b
both_right true b t = t
both_right false b t = absurd t

from : (m : ℕ) (ys : List ℕ) → T (follows (power m) ys) → (k : ℕ) → k < length ys → get_or ys k 0 ≡ power (suc m + k)
unfolding power
from m [] t k h = absurd (not-suc-le-zero h)
from m (y ∷ ys) t zero h = eqb→eq y (twice (power m)) (both_left (eqb y (twice (power m))) (follows y ys) t) ∙ ap power (sym (add-zero (suc m)))
from m (y ∷ ys) t (suc k) h =
    let e : y ≡ power (suc m) = eqb→eq y (twice (power m)) (both_left (eqb y (twice (power m))) (follows y ys) t) in
    let s : T (follows (power (suc m)) ys) = subst (λ (z : ℕ). T (follows z ys)) e (both_right (eqb y (twice (power m))) (follows y ys) t) in
    from (suc m) ys s k (le_of_suc-le-suc h) ∙ ap power (suc-add (suc m) k ∙ sym (add-suc (suc m) k))

pub powers_at : (xs : List ℕ) → T (are_powers xs) → (k : ℕ) → k < length xs → get_or xs k 0 ≡ power k
unfolding power
powers_at [] t k h = absurd (not-suc-le-zero h)
powers_at (y ∷ ys) t zero h = eqb→eq y 1 (both_left (eqb y 1) (follows y ys) t)
powers_at (y ∷ ys) t (suc k) h =
    let e : y ≡ power 0 = eqb→eq y 1 (both_left (eqb y 1) (follows y ys) t) in
    let s : T (follows (power 0) ys) = subst (λ (z : ℕ). T (follows z ys)) e (both_right (eqb y 1) (follows y ys) t) in
    from 0 ys s k (le_of_suc-le-suc h) ∙ ap power (let q : 1 + k ≡ suc k = omega arith in q)
