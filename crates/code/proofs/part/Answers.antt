use mathlib.Core.Bool.{Bool, true, false}
use mathlib.Core.Path.{◌≡◌, refl}
use Prim.Native.Nat.{ℕ, ◌+◌, ◌*◌, ◌/◌, ◌%◌, ◌^◌}
use native.Mathlib.Omega.{arith}
use borrow.Author.Tests.{eqb-true, eqb-false}
use lib.Dec.{eqb}
use Rattle.sum.specs.Sum.{bit}
use Rattle.field.specs.Field.{scale}
use Rattle.code.proofs.part.Goals as goal

-- the two products are the part
products : (c d k : ℕ) → c / 18446744073709551616 * (d / 2 ^ k % 2) * 18446744073709551616 + c % 18446744073709551616 * (d / 2 ^ k % 2) ≡ scale (bit d k) c
unfolding bit
products c d k = go (eqb (d / 2 ^ k % 2) 1) refl
  where
    go : (b : Bool) → eqb (d / 2 ^ k % 2) 1 ≡ b → c / 18446744073709551616 * (d / 2 ^ k % 2) * 18446744073709551616 + c % 18446744073709551616 * (d / 2 ^ k % 2) ≡ scale b c
    go true e = let one : d / 2 ^ k % 2 ≡ 1 = eqb-true (d / 2 ^ k % 2) 1 e in rw one (omega arith)
    go false e = let none : d / 2 ^ k % 2 ≡ 0 = omega (arith, eqb-false (d / 2 ^ k % 2) 1 e) in rw none (omega arith)

pub returns : goal.returns
returns c = rw (c.from.ensures, c.from-2.ensures, c.from-bit.ensures) (products c.args.c c.args.d c.args.k)
