-- The first rule that holds: each refusal is given when its condition holds and no earlier one does, and at no other time.
-- Assumes nothing.
use mathlib.Core.Bool.{Bool, true, false}
use mathlib.Core.List.{List, [], ◌∷◌, ◌++◌}
use mathlib.Core.Logic.{inl, inr}
use mathlib.Core.Path.{◌≡◌, refl, ap}
use Prim.Native.Nat.{ℕ, ◌<◌}
use native.Mathlib.Omega.{arith}
use lib.Dec.{T, ltb, ltb→lt}
use Rattle.octets.specs.Choice.{pick}
use Rattle.frame.specs.Rules.{Rule, ◌when◌, first, NoneHold, Settled}

-- every number is above m; above 0, 0 says that no rule holds
abbrev pub Above : ℕ → List Rule → Type 0
Above m [] = Unit {0}
Above m ((n when b) ∷ rs) = T (ltb m n) × Above m rs

pub given : (earlier : List Rule) (n : ℕ) (later : List Rule) → NoneHold earlier → first (earlier ++ ((n when true) ∷ later)) ≡ n
given [] n later h = refl
given ((m when b) ∷ earlier) n later h = rw h.0 (given earlier n later h.1)

goes_on : (n : ℕ) (rs : List Rule) → Settled rs → Settled ((n when false) ∷ rs)
goes_on n rs (inl h) = inl (h.0, (refl, h.1))
goes_on n rs (inr h) =
    inr
    (record {
      earlier = (n when false) ∷ h.earlier;
      later = h.later;
      stands = ap (λ (l : List Rule). (n when false) ∷ l) h.stands;
      none = (refl, h.none);
    })

pub only : (rs : List Rule) → Settled rs
only [] = inl (refl, tt)
only ((n when true) ∷ rs) = inr (record { earlier = []; later = rs; stands = refl; none = tt })
only ((n when false) ∷ rs) = goes_on n rs (only rs)

-- a first number that is 0, and one that is not, of rules that come before others
passed : (b : Bool) (n m : ℕ) → T (ltb 0 n) → pick b n m ≡ 0 → (b ≡ false) × (m ≡ 0)
passed true n m l e = let p = ltb→lt 0 n l in absurd (omega arith)
passed false n m l e = (refl, e)

pub none_hold : (rs : List Rule) → Above 0 rs → first rs ≡ 0 → NoneHold rs
none_hold [] k e = tt
none_hold ((n when b) ∷ rs) k e = let p = passed b n (first rs) k.0 e in (p.0, none_hold rs k.1 p.1)

pub none_first : (rs : List Rule) → NoneHold rs → first rs ≡ 0
none_first [] h = refl
none_first ((n when b) ∷ rs) h = rw h.0 (none_first rs h.1)

pub first_zero : (rs ts : List Rule) → NoneHold rs → first (rs ++ ts) ≡ first ts
first_zero [] ts h = refl
first_zero ((n when b) ∷ rs) ts h = rw h.0 (first_zero rs ts h.1)

pub first_found : (rs ts : List Rule) → (first rs ≡ 0 → ⊥) → first (rs ++ ts) ≡ first rs
first_found [] ts h = absurd (h refl)
first_found ((n when true) ∷ rs) ts h = refl
first_found ((n when false) ∷ rs) ts h = first_found rs ts h

-- a first number m, at a rule with another number, and at rule m where the later ones have greater
pub passed_over : (n m : ℕ) (b : Bool) (rs : List Rule) → (n ≡ m → ⊥) → first ((n when b) ∷ rs) ≡ m → (b ≡ false) × (first rs ≡ m)
passed_over n m true rs h e = absurd (h e)
passed_over n m false rs h e = (refl, e)

not-later : (m : ℕ) (rs : List Rule) → 0 < m → Above m rs → first rs ≡ m → ⊥
not-later m [] h k e = omega arith
not-later m ((n when true) ∷ rs) h k e = let p = ltb→lt m n k.0 in omega arith
not-later m ((n when false) ∷ rs) h k e = not-later m rs h k.1 e

pub holds_there : (m : ℕ) (b : Bool) (rs : List Rule) → 0 < m → Above m rs → first ((m when b) ∷ rs) ≡ m → b ≡ true
holds_there m true rs h k e = refl
holds_there m false rs h k e = absurd (not-later m rs h k e)
