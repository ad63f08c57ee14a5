-- The management item: its flags are bits, and what lies within the length that they and MID call for.
-- Assumes nothing.
use mathlib.Core.Bool.{Bool, true, false}
use mathlib.Core.List.{List}
use mathlib.Core.Path.{◌≡◌, sym}
use Prim.Native.Nat.{ℕ, ◌+◌, ◌*◌, ◌≤◌, ◌<◌}
use native.Mathlib.Nat.{mod-lt}
use native.Mathlib.Omega.{arith}
use borrow.Author.Tests.{eq-eqb, ne_eqb}
use mir.Val.{bool_byte}
use lib.Dec.{eqb, lit<}
use lib.ListN.{length, drop, length-drop}
use lib.Seq.{length-take-le}
use Rattle.octets.specs.Choice.{pick}
use Rattle.octets.proofs.Deciding.{clash}
use Rattle.sum.specs.Sum.{digit}
use Rattle.frame.specs.Frame.{ficl_by}
use Rattle.tags.specs.TagValues.{atstf_in, ficf_in, ficl_in, fic_in, fic_place, rfud_place, length_for}

pub atstf_bit : (m : List ℕ) → atstf_in m < 2
unfolding atstf_in
atstf_bit m = mod-lt _ (lit< tt)

pub ficf_bit : (m : List ℕ) → ficf_in m < 2
unfolding ficf_in
ficf_bit m = mod-lt _ (lit< tt)

pub ficl_small : (ficf mid : ℕ) → ficl_by ficf mid ≤ 32
unfolding ficl_by
ficl_small ficf mid = go (eqb ficf 0) (eqb mid 3)
  where
    go : (x y : Bool) → pick x 0 (pick y 32 24) ≤ 32
    go true y = omega arith
    go false true = omega arith
    go false false = omega arith

pub fic_place_small : (m : List ℕ) → fic_place m ≤ 14
unfolding fic_place
fic_place_small m = omega (arith, atstf_bit m)

module _ (m : List ℕ) (e : length m ≡ length_for m) where
  pub fic_inside : fic_place m + 4 * ficl_in m ≤ length m
  unfolding length_for rfud_place
  fic_inside = omega (arith, e)

  pub fic_long : length (fic_in m) ≡ 4 * ficl_in m
  unfolding fic_in
  fic_long = let d = length-drop (fic_place m) m in length-take-le (4 * ficl_in m) (drop (fic_place m) m) (omega (arith, fic_inside))

-- ---- a flag, as the code has it, and as the number that the bytes hold
pub set : (b : Bool) (n : ℕ) → digit b ≡ n → b ≡ true → eqb n 0 ≡ false
set true n e h = ne_eqb n 0 (λ z. omega (arith, e, z))
set false n e h = clash (sym h)

pub unset : (b : Bool) (n : ℕ) → digit b ≡ n → b ≡ false → eqb n 0 ≡ true
unset false n e h = eq-eqb n 0 (sym e)
unset true n e h = clash h

pub flag : (b : Bool) (n : ℕ) → digit b ≡ n → b ≡ eqb n 1
flag true n e = sym (eq-eqb n 1 (sym e))
flag false n e = sym (ne_eqb n 1 (λ z. omega (arith, e, z)))

pub bit : (b : Bool) (n : ℕ) → digit b ≡ n → bool_byte b ≡ n
bit true n e = e
bit false n e = e

pub ruleset flags = (set, unset, bit, flag)

pub ruleset places = (fic_place_small, ficl_small)
