-- Eight bytes as one word, and the register drawn out to 256 stages. Nothing here need be believed: the public contract is in the words of Sum.
-- Assumes nothing.
use Rattle.std.specs.Prelude.{◌≡◌, List, [], ◌∷◌, ℕ, ◌/◌, ◌%◌, ◌^◌}
use Rattle.octets.specs.Words.{split, bytes4}
use Rattle.sum.specs.Sum.{Register, after, load}
use Rattle.stretch.specs.declared.Stretched.{Stretched}

-- a register after the four bytes of half a word, after the eight of a word, after those of words
unfoldable pub after4 : Register → ℕ → Register
after4 r n = after r (split bytes4 n)

unfoldable pub after8 : Register → ℕ → Register
after8 r z = after4 (after4 r (z / 2 ^ 32)) (z % 2 ^ 32)

abbrev pub afters : Register → List ℕ → Register
afters r [] = r
afters r (z ∷ zs) = afters (after8 r z) zs

-- a register after rows of bytes, one after the other
abbrev pub after_rows : Register → List (List ℕ) → Register
after_rows r [] = r
after_rows r (w ∷ ws) = after_rows (after r w) ws

-- the register with no stage set
abbrev pub blank : Register
blank = load 0

-- s stands for r: 32 zero bytes take r to where its own 32 bytes take a blank register, so they may be added to the 32 bytes that follow
pub record Stands (r : Register) (s : Stretched) : Type 0 where
  pub ahead : afters r (0 ∷ 0 ∷ 0 ∷ 0 ∷ []) ≡ afters blank (s.a ∷ s.b ∷ s.c ∷ s.d ∷ [])
