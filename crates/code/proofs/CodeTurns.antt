-- The turns of the code's loops.
-- Assumes nothing.
use mathlib.Core.Path.{◌≡◌, refl, sym, ◌∙◌}
use mathlib.Core.Bool.{Bool, true, false}
use mathlib.Core.Logic.{⊎_elim, ◌⊎◌}
use native.Mathlib.Nat.{eq-or-lt_of_le, le_of_suc-le-suc}
use native.Mathlib.Omega.{arith}
use mathlib.Core.List.{List, [], ◌∷◌, ◌++◌}
use Prim.Native.Nat.{ℕ, zero, suc, ◌+◌, ◌<◌, ◌≤◌}
use native.Mathlib.Numerals.{add-one}
use borrow.Author.Tests.{ne_eqb, eqb-true}
use lib.Bits.{bit_xor}
use lib.Dec.{eqb}
use lib.ListN.{length, get_or, take, replicate}
use lib.Seq.{take-suc}
use Rattle.octets.specs.Choice.{pick}
use Rattle.std.specs.List.{fold}
use Rattle.field.specs.Field.{times}
use Rattle.std.proofs.Common.{Ok, Err}
use Rattle.refusals.specs.declared.Refusal.TheVariants.{Length}
use Rattle.code.specs.CodeAnswers.{check_refusal, Checks, row_refusal, Tests}
use Rattle.code.specs.Code.{horner, value_at, root, is_clean, lower, divide, remainder, check_bytes}

pub by_fold : (z v : ℕ) (row : List ℕ) → fold (λ v b. bit_xor (times v z) b) v row ≡ horner z v row
by_fold z v [] = refl
by_fold z v (b ∷ row) = by_fold z (bit_xor (times v z) b) row

-- ---- the tests of the roots, one more
pub test_more : (z v i : ℕ) (row : List ℕ) → is_clean i row ≡ true → z ≡ root i → v ≡ value_at z row → eqb v 0 ≡ is_clean (i + 1) row
test_more z v i row e f g = rw (add-one, e, g, f)

-- a test that fails decides
pub not_clean : (i n : ℕ) (row : List ℕ) → i ≤ n → is_clean i row ≡ false → is_clean n row ≡ false
not_clean i n row h e = go n h
  where
    go : (n : ℕ) → i ≤ n → is_clean n row ≡ false
    go zero h = let z : i ≡ 0 = omega arith in rw z at e
    go (suc n) h =
        ⊎_elim (λ (q : i ≡ suc n). rw q at e) (λ (l : i < suc n). rw (go n (le_of_suc-le-suc l)) refl) (eq-or-lt_of_le h)

-- ---- the coefficients of the information, one more
pub remainder_snoc : (g rest xs : List ℕ) (x : ℕ) → remainder g rest (xs ++ (x ∷ [])) ≡ divide g (remainder g rest xs) x
remainder_snoc g rest [] x = refl
remainder_snoc g rest (y ∷ xs) x = remainder_snoc g (divide g rest y) xs x

pub remainder_more : (g rest info now next : List ℕ) (i : ℕ) → i < length info → now ≡ remainder g rest (take i info) → next ≡ divide g now (get_or info i 0) → next ≡ remainder g rest (take (i + 1) info)
remainder_more g rest info now next i h e f = f ∙ rw (e, add-one, take-suc info i 0, remainder_snoc g rest (take i info) (get_or info i 0))

pub by_generator : (r : ℕ) (g info : List ℕ) → lower r ≡ g → remainder g (replicate r 0) info ≡ check_bytes r info
unfolding check_bytes
by_generator r g info e = rw e

-- ---- the answers
module _ (l r : ℕ) where
  pub none_taken : (l ≡ 235 → r ≡ 5 → ⊥) → (l ≡ 226 → r ≡ 14 → ⊥) → check_refusal l r ≡ 1
  unfolding check_refusal
  none_taken h k = go (eqb r 5) refl (eqb r 14) refl
    where
      go : (b : Bool) → eqb r 5 ≡ b → (c : Bool) → eqb r 14 ≡ c → ◌≡◌ {A = ℕ} (pick b (pick (eqb l 235) 0 1) (pick c (pick (eqb l 226) 0 1) 1)) 1
      go true e c f = rw (ne_eqb l 235 (λ q. h q (eqb-true r 5 e))) refl
      go false e true f = rw (ne_eqb l 226 (λ q. k q (eqb-true r 14 f))) refl
      go false e false f = refl

  pub no_row : (l ≡ 240 → (r ≡ 5 → ⊥) × (r ≡ 14 → ⊥)) → row_refusal l r ≡ 1
  unfolding row_refusal
  no_row h = go (eqb l 240) refl
    where
      go : (b : Bool) → eqb l 240 ≡ b → ◌≡◌ {A = ℕ} (pick b (pick (eqb r 5) 0 (pick (eqb r 14) 0 1)) 1) 1
      go true e = let k = h (eqb-true l 240 e) in rw (ne_eqb r 5 k.0, ne_eqb r 14 k.1) refl
      go false e = refl

pub kept : (info out : List ℕ) → check_refusal (length info) (length out) ≡ 1 → Checks info out out 1
kept info out e = record { number = sym e; bytes = refl }

pub given : (r : ℕ) (info out after : List ℕ) → length out ≡ r → check_refusal (length info) r ≡ 0 → after ≡ check_bytes r info → Checks info out after 0
given r info out after e f g = record { number = sym (rw e f); bytes = rw e g }

pub row_kept : (row : List ℕ) (check : ℕ) → (length row ≡ 240 → (check ≡ 5 → ⊥) × (check ≡ 14 → ⊥)) → Tests row check (Err Length)
row_kept row check h = record { number = sym (no_row (length row) check h); told = tt }

pub row_told : (row : List ℕ) (check : ℕ) (clean : Bool) → length row ≡ 240 → (check ≡ 5) ⊎ (check ≡ 14) → clean ≡ is_clean check row → Tests row check (Ok clean)
unfolding row_refusal
row_told row check clean e h f =
    record {
      number = ⊎_elim (λ (q : check ≡ 5). rw (e, q) refl) (λ (q : check ≡ 14). rw (e, q) refl) h;
      told = f;
    }
