-- Laws of tests: what decides one, for `search (needs, tests)`; either of two, both of two; a number's place in a list.
-- Assumes nothing.
use mathlib.Core.Bool.{Bool, true, false, not, ◌&&◌, ◌||◌}
use mathlib.Core.List.{List, [], ◌∷◌}
use mathlib.Core.Path.{◌≡◌, refl, sym}
use Prim.Native.Nat.{ℕ, suc, ◌<◌}
use native.Mathlib.Nat.{le_of_suc-le-suc}
use native.Mathlib.Omega.{arith}
use borrow.Author.Tests.{eq-eqb, ne_eqb, lt-ltb, le-ltb, le-leb, lt-leb, eqb-true}
use lib.Dec.{eqb}
use lib.ListN.{length, get_or}
use Rattle.octets.specs.Choice.{pick, place_in}

pub ruleset tests = (eq-eqb, ne_eqb, lt-ltb, le-ltb, le-leb, lt-leb)

pub equal : {a b : ℕ} → a ≡ b → not (eqb a b) ≡ false
equal {a} {b} e = rw (eq-eqb a b e)

pub or_assoc : (a b c : Bool) → ((a || b) || c) ≡ (a || (b || c))
or_assoc true b c = refl
or_assoc false b c = refl

pub or-false : (a : Bool) → (a || false) ≡ a
or-false true = refl
or-false false = refl

pub neither : (a b : Bool) → (a || b) ≡ false → (a ≡ false) × (b ≡ false)
neither true b e = (e, cc)
neither false b e = (refl, e)

pub clash : {A : Type 0} → true ≡ false → A
clash e = let z : ◌≡◌ {A = ℕ} 0 1 = cc in absurd (omega arith)

pub both : (a b : Bool) → (a && b) ≡ true → (a ≡ true) × (b ≡ true)
both true b e = (refl, e)
both false b e = clash (sym e)

pub not_both : (a b : Bool) → (a ≡ true → b ≡ false) → (a && b) ≡ false
not_both true b h = h refl
not_both false b h = refl

-- what stands at the place of n is n
pub at_place : (xs : List ℕ) (n : ℕ) → place_in xs n < length xs → get_or xs (place_in xs n) 0 ≡ n
at_place [] n h = absurd (omega arith)
at_place (x ∷ xs) n h = go (eqb n x) refl h (λ l. at_place xs n l)
  where
    go : (b : Bool) → eqb n x ≡ b → pick b 0 (suc (place_in xs n)) < suc (length xs) → (place_in xs n < length xs → get_or xs (place_in xs n) 0 ≡ n) → get_or (x ∷ xs) (pick b 0 (suc (place_in xs n))) 0 ≡ n
    go true e l later = sym (eqb-true n x e)
    go false e l later = later (le_of_suc-le-suc l)
