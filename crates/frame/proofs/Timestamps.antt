-- The timestamp: from its 24 bits to its sort and number, and back.
-- Assumes nothing.
use mathlib.Core.Bool.{Bool, true, false}
use mathlib.Core.List.{List, ◌∷◌}
use mathlib.Core.Path.{◌≡◌, refl, sym}
use Prim.Native.Nat.{ℕ, ◌^◌, ◌<◌}
use native.Mathlib.Omega.{arith}
use lib.Dec.{eqb, ltb, lit<}
use borrow.Author.Tests.{ne_eqb, lt-ltb, le-ltb, eqb-true, eqb-false, ltb-true, ltb-false}
use Rattle.octets.specs.Choice.{pick}
use Rattle.octets.proofs.Deciding.{neither}
use Rattle.frame.specs.declared.Timestamp.{Timestamp}
use Rattle.frame.specs.declared.Timestamp.TheVariants.{Absent, Time, Reserved}
use Rattle.frame.specs.Answers.{time_by, timestamp_values, timestamp_for}
use Rattle.frame.specs.Writing.{time_wider}

-- sort and number fix it
clash : {xs ys : List ℕ} (a b : ℕ) → a ∷ xs ≡ b ∷ ys → (a ≡ b → ⊥) → ⊥
clash a b e h = let z : a ≡ b = cc in h z

pub timestamp_fixed : (s t : Timestamp) → timestamp_values s ≡ timestamp_values t → s ≡ t
timestamp_fixed Absent Absent e = refl
timestamp_fixed Absent (Time n) e = absurd (clash 0 1 e (λ z. omega arith))
timestamp_fixed Absent (Reserved n) e = absurd (clash 0 2 e (λ z. omega arith))
timestamp_fixed (Time m) Absent e = absurd (clash 1 0 e (λ z. omega arith))
timestamp_fixed (Time m) (Time n) e = cc
timestamp_fixed (Time m) (Reserved n) e = absurd (clash 1 2 e (λ z. omega arith))
timestamp_fixed (Reserved m) Absent e = absurd (clash 2 0 e (λ z. omega arith))
timestamp_fixed (Reserved m) (Time n) e = absurd (clash 2 1 e (λ z. omega arith))
timestamp_fixed (Reserved m) (Reserved n) e = cc

-- its number is the one that was carried
pub time_kept : (n : ℕ) → time_by (timestamp_for n) ≡ n
unfolding timestamp_for
time_kept n = go (eqb n 0xFFFFFF) (ltb 0xF9FFFF n) refl
  where
    go : (a b : Bool) → eqb n 0xFFFFFF ≡ a → time_by (pick a Absent (pick b (Reserved n) (Time n))) ≡ n
    go true b e = sym (eqb-true n 0xFFFFFF e)
    go false true e = refl
    go false false e = refl

-- one within its sort's range comes back from its number, which is of 24 bits
pub time_back : (t : Timestamp) → time_wider t ≡ false → timestamp_for (time_by t) ≡ t
unfolding timestamp_for
time_back Absent h = refl
time_back (Time n) h =
    let l = ltb-false 0xF9FFFF n h in
    rw (ne_eqb n 0xFFFFFF (λ z. omega arith), le-ltb 0xF9FFFF n l)
time_back (Reserved n) h =
    let p = neither (ltb n 0xFA0000) (ltb 0xFFFFFE n) h in
    let l = ltb-false n 0xFA0000 p.0 in
    let m = ltb-false 0xFFFFFE n p.1 in
    rw (ne_eqb n 0xFFFFFF (λ z. omega arith), lt-ltb 0xF9FFFF n (omega arith))

pub time_lt : (t : Timestamp) → time_wider t ≡ false → time_by t < 2 ^ 24
time_lt Absent h = lit< tt
time_lt (Time n) h = omega (arith, ltb-false 0xF9FFFF n h)
time_lt (Reserved n) h = omega (arith, ltb-false 0xFFFFFE n (neither (ltb n 0xFA0000) (ltb 0xFFFFFE n) h).1)

-- one that was carried is within its sort's range
pub time_carried : (n : ℕ) → n < 2 ^ 24 → time_wider (timestamp_for n) ≡ false
unfolding timestamp_for
time_carried n h = go (eqb n 0xFFFFFF) (ltb 0xF9FFFF n) refl refl
  where
    go : (a b : Bool) → eqb n 0xFFFFFF ≡ a → ltb 0xF9FFFF n ≡ b → time_wider (pick a Absent (pick b (Reserved n) (Time n))) ≡ false
    go true b e d = refl
    go false true e d =
        let l = ltb-true 0xF9FFFF n d in
        rw (le-ltb n 0xFA0000 (omega arith), le-ltb 0xFFFFFE n (omega (arith, eqb-false n 0xFFFFFF e)))
    go false false e d = d
