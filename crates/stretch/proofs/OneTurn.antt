-- A turn of the stretched register: its word goes, added to those 8, 22 and 32 bytes on.
-- Assumes nothing.
use mathlib.Core.Path.{◌≡◌, refl, sym, ap, ap₂, ◌∙◌}
use mathlib.Core.List.{[], ◌∷◌}
use Prim.Native.Nat.{ℕ, ◌*◌, ◌/◌, ◌%◌, ◌^◌, ◌<◌}
use lib.Bits.{bit_xor, xor_zero_r, xor_lt}
use Rattle.sum.specs.Sum.{Register}
use Rattle.sum.proofs.Shifts.{◌⊞◌}
use Rattle.stretch.specs.Stretch.{after8, afters, blank, Stands}
use Rattle.stretch.specs.declared.Stretched.{Stretched}
use Rattle.stretch.proofs.Stretching.{afters_xor, xor-blank, blank_on, alone, ahead}

-- a word that may go alone may go before others
gone : (q b c d : ℕ) → q < 2 ^ 64
    → afters blank (q ∷ b ∷ c ∷ d ∷ 0 ∷ []) ≡ afters blank (bit_xor b q ∷ bit_xor c (q / 2 ^ 48) ∷ bit_xor d (q * 2 ^ 16 % 2 ^ 64) ∷ q ∷ [])
gone q b c d h =
    let apart = afters_xor blank blank (0 ∷ b ∷ c ∷ d ∷ 0 ∷ []) (q ∷ 0 ∷ 0 ∷ 0 ∷ 0 ∷ []) refl in
    ap (λ (r : Register). afters r (q ∷ b ∷ c ∷ d ∷ 0 ∷ [])) (sym (xor-blank blank))
    ∙ (rw (xor_zero_r b, xor_zero_r c, xor_zero_r d) at apart)
    ∙ ap₂ ◌⊞◌ (ap (λ (r : Register). afters r (b ∷ c ∷ d ∷ 0 ∷ [])) blank_on) (alone q h)
    ∙ sym (afters_xor blank blank (b ∷ c ∷ d ∷ 0 ∷ []) (q ∷ q / 2 ^ 48 ∷ q * 2 ^ 16 % 2 ^ 64 ∷ q ∷ []) refl)
    ∙ ap (λ (r : Register). afters r (bit_xor b q ∷ bit_xor c (q / 2 ^ 48) ∷ bit_xor d (q * 2 ^ 16 % 2 ^ 64) ∷ q ∷ [])) (xor-blank blank)

module _ (r : Register) (s : Stretched) (h : Stands r s) where
  pub turned : (z : ℕ) → s.a < 2 ^ 64 → z < 2 ^ 64
      → Stands (after8 r z) (record { a = bit_xor s.b (bit_xor s.a z); b = bit_xor s.c (bit_xor s.a z / 2 ^ 48); c = bit_xor s.d (bit_xor s.a z * 2 ^ 16 % 2 ^ 64); d = bit_xor s.a z })
  turned z i j = record {
    ahead =
        ahead r (s.a ∷ s.b ∷ s.c ∷ s.d ∷ 0 ∷ []) (z ∷ 0 ∷ 0 ∷ 0 ∷ 0 ∷ []) (ap (λ (q : Register). after8 q 0) h.ahead) refl
        ∙ rw (xor_zero_r s.b, xor_zero_r s.c, xor_zero_r s.d) (gone (bit_xor s.a z) s.b s.c s.d (xor_lt 64 s.a z i j));
  }
