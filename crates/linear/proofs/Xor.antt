-- Exclusive or of numbers: what the library leaves out.
-- Assumes nothing.
use mathlib.Core.Path.{◌≡◌, refl}
use Prim.Native.Nat.{ℕ, ◌/◌}
use native.Mathlib.Omega.{arith}
use lib.Arith.{bin_ind}
use lib.Bits.{bit_xor, xor_comm, xor_add_and, xor_shr}

-- by halves; the last digits agree, for a sum and its exclusive or are both odd or both even
pub xor_assoc : (a b c : ℕ) → bit_xor (bit_xor a b) c ≡ bit_xor a (bit_xor b c)
xor_assoc =
    bin_ind (λ (n : ℕ). (b c : ℕ) → bit_xor (bit_xor n b) c ≡ bit_xor n (bit_xor b c)) (λ b c. refl)
    (λ n ih b c.
    let half : bit_xor (bit_xor n b) c / 2 ≡ bit_xor n (bit_xor b c) / 2 =
    rw (xor_shr (bit_xor n b) c 1, xor_shr n b 1, xor_shr n (bit_xor b c) 1, xor_shr b c 1) (ih (b / 2) (c / 2)) in
    omega (arith, xor_add_and (bit_xor n b) c, xor_add_and n b, xor_add_and n (bit_xor b c), xor_add_and b c))

pub xor_cross : (a b c d : ℕ) → bit_xor (bit_xor a b) (bit_xor c d) ≡ bit_xor (bit_xor a c) (bit_xor b d)
xor_cross a b c d = rw (xor_assoc a b (bit_xor c d), ← xor_assoc b c d, xor_comm b c, xor_assoc c b d, ← xor_assoc a c (bit_xor b d))
