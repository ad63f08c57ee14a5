-- The part that a name of 4 bytes stands for, by the name as one number.
-- Assumes nothing.
use mathlib.Core.Bool.{Bool, true, false}
use mathlib.Core.Path.{◌≡◌, refl}
use Prim.Native.Nat.{ℕ, ◌+◌, ◌-◌, ◌/◌, ◌%◌, ◌≤◌, ◌<◌}
use native.Mathlib.Omega.{arith}
use borrow.Author.Tests.{eq-eqb, ne_eqb, lt-ltb, le-leb, leb-true, ltb-true, eqb-true}
use lib.Dec.{eqb, ltb, leb}
use Rattle.items.specs.TagItems.{part_of}

pub management : (n : ℕ) → n ≡ 0x64657469 → 0 ≡ part_of n
unfolding part_of
management n e = rw (eq-eqb n 0x64657469 e)

pub stream : (n : ℕ) → 0x65737401 ≤ n → n ≤ 0x65737440 → n - 0x65737401 + 1 ≡ part_of n
unfolding part_of
stream n h l =
    let q : n / 256 ≡ 0x657374 = omega arith in
    let r : n - 0x65737401 + 1 ≡ n % 256 = omega arith in
    rw (ne_eqb n 0x64657469 (λ e. omega (arith, e)), eq-eqb (n / 256) 0x657374 q, lt-ltb 0 (n % 256) (omega arith), le-leb (n % 256) 64 (omega arith)) r

pub other : (n : ℕ) → (n ≡ 0x64657469 → ⊥) → (0x65737401 ≤ n → 0x65737440 < n) → 65 ≡ part_of n
unfolding part_of
other n d h = go (eqb (n / 256) 0x657374) refl (ltb 0 (n % 256)) refl (leb (n % 256) 64) refl
  where
    go : (x : Bool) → eqb (n / 256) 0x657374 ≡ x → (y : Bool) → ltb 0 (n % 256) ≡ y → (z : Bool) → leb (n % 256) 64 ≡ z → 65 ≡ part_of n
    go false e y f z g = rw (ne_eqb n 0x64657469 d, e)
    go true e false f z g = rw (ne_eqb n 0x64657469 d, e, f)
    go true e true f false g = rw (ne_eqb n 0x64657469 d, e, f, g)
    go true e true f true g = let a = eqb-true (n / 256) 0x657374 e in let b = ltb-true 0 (n % 256) f in let k = leb-true (n % 256) 64 g in absurd (omega arith)

pub ruleset parts = (management, stream, other)
