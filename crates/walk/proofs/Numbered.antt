-- A refused period's number is a refusal's, and whether an outcome is a refusal shows in its number.
-- Assumes nothing.
use Rattle.std.specs.Prelude.{Result, Ok, Err}
use Rattle.std.specs.Result.{is_ok}
use mathlib.Core.Bool.{Bool, true, false, ◌&&◌}
use mathlib.Core.List.{List, [], ◌∷◌}
use mathlib.Core.Path.{◌≡◌, refl, sym, ap, ◌∙◌}
use Prim.Native.Nat.{ℕ}
use native.Mathlib.Omega.{arith}
use lib.Dec.{eqb}
use borrow.Author.Tests.{eqb-true}
use Rattle.octets.proofs.Deciding.{both}
use Rattle.refusals.specs.declared.Refusal.{Refusal}
use Rattle.refusals.specs.Refusals.{refusal_number, refusal_by, outcome_number}
use Rattle.refusals.proofs.Numbers.{above_zero, by_number}
use Rattle.frame.specs.Rules.{Rule, ◌when◌, first, rules_of, refusal_of}

-- every rule's number is a refusal's
abbrev told : List Rule → Bool
told [] = true
told ((n when t) ∷ rs) = eqb (refusal_number (refusal_by n)) n && told rs

first_told : (rs : List Rule) → told rs ≡ true → (first rs ≡ 0 → ⊥) → refusal_number (refusal_by (first rs)) ≡ first rs
first_told [] h z = absurd (z refl)
first_told ((n when true) ∷ rs) h z = eqb-true (refusal_number (refusal_by n)) n (both (eqb (refusal_number (refusal_by n)) n) _ h).0
first_told ((n when false) ∷ rs) h z = first_told rs (both (eqb (refusal_number (refusal_by n)) n) _ h).1 z

-- THE REFUSAL of refused bytes has their number
pub refusal_told : (f : List ℕ) → (refusal_of f ≡ 0 → ⊥) → refusal_number (refusal_by (refusal_of f)) ≡ refusal_of f
unfolding refusal_of refusal_by
refusal_told f z = first_told (rules_of f) refl z

-- .. and is the one with it
pub refusal_is : (f : List ℕ) (r : Refusal) → refusal_number r ≡ refusal_of f → refusal_by (refusal_of f) ≡ r
refusal_is f r e = ap refusal_by (sym e) ∙ by_number r

-- an outcome is a refusal exactly where its number is not 0
pub ok_number : {A : Type 0} (r : Result A Refusal) → is_ok r ≡ true → outcome_number r ≡ 0
ok_number (Ok x) e = refl
ok_number (Err n) e = absurd (let z : ◌≡◌ {A = ℕ} 0 1 = cc in omega arith)

pub err_number : {A : Type 0} (r : Result A Refusal) → is_ok r ≡ false → outcome_number r ≡ 0 → ⊥
err_number (Ok x) e = absurd (let z : ◌≡◌ {A = ℕ} 0 1 = cc in omega arith)
err_number (Err n) e = above_zero n
