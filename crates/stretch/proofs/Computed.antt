-- Rows that are computed and are the same, by a test of each number: the checker computes one Boolean, and holds no unfinished row against another.
-- Assumes nothing.
use mathlib.Core.Bool.{Bool, true, false, ◌&&◌}
use mathlib.Core.List.{List, [], ◌∷◌}
use mathlib.Core.Path.{◌≡◌, refl, ap₂}
use Prim.Native.Nat.{ℕ}
use lib.Dec.{T as Holds, eqb, eqb→eq}

both : (a b : Bool) → Holds (a && b) → Holds a × Holds b
both true b h = (tt, h)
both false b h = absurd h

abbrev alike : {A : Type 0} → (A → A → Bool) → List A → List A → Bool
alike test [] [] = true
alike test [] (y ∷ ys) = false
alike test (x ∷ xs) [] = false
alike test (x ∷ xs) (y ∷ ys) = test x y && alike test xs ys

same : {A : Type 0} (test : A → A → Bool) → ((x y : A) → Holds (test x y) → x ≡ y) → (xs ys : List A) → Holds (alike test xs ys) → xs ≡ ys
same test sound [] [] h = refl
same test sound [] (y ∷ ys) h = absurd h
same test sound (x ∷ xs) [] h = absurd h
same test sound (x ∷ xs) (y ∷ ys) h = let b = both (test x y) (alike test xs ys) h in ap₂ ◌∷◌ (sound x y b.0) (same test sound xs ys b.1)

pub computed : {xss yss : List (List ℕ)} → Holds (alike (alike eqb) xss yss) → xss ≡ yss
computed {xss} {yss} = same (alike eqb) (same eqb eqb→eq) xss yss
