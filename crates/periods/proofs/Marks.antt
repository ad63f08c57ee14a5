-- An accepted period begins with a sync word, so a place that does not begin with one is not accepted.
-- Assumes nothing.
use mathlib.Core.Bool.{Bool, true, false}
use mathlib.Core.List.{List}
use mathlib.Core.Logic.{inl, inr}
use mathlib.Core.Path.{◌≡◌, subst, ◌∙◌}
use Prim.Native.Nat.{ℕ, ◌+◌, ◌*◌, ◌<◌}
use native.Mathlib.Omega.{arith}
use lib.ListN.{get_or, drop}
use lib.Seq.{get_or-take, get_or-drop}
use Rattle.frame.specs.Frame.{fsync_of}
use Rattle.frame.specs.Rules.{refusal_of}
use Rattle.frame.proofs.Accepting.{acceptable}
use Rattle.frame.proofs.Places.{OneFsync}
use Rattle.periods.specs.Periods.{part}

-- the bytes a, b and c are a sync word, and r is true of both
module _ (a b c : ℕ) (r : Bool) (low : (a < 256) × (b < 256) × (c < 256)) (one : a ≡ 0x07 → b ≡ 0x3A → c ≡ 0xB6 → r ≡ true) (other : a ≡ 0xF8 → b ≡ 0xC5 → c ≡ 0x49 → r ≡ true) where
  begins : OneFsync (a * 65536 + b * 256 + c) → r ≡ true
  begins (inl e) = one (omega arith) (omega arith) (omega arith)
  begins (inr e) = other (omega arith) (omega arith) (omega arith)

module _ (bytes : List ℕ) (p : ℕ) where
  pub byte_is : (i : ℕ) → i < 6144 → get_or (part bytes p) i 0 ≡ get_or bytes (p + i) 0
  byte_is i h = get_or-take 6144 (drop p bytes) i 0 h ∙ get_or-drop p bytes i 0

  module _ (small : (i : ℕ) → get_or bytes i 0 < 256) where
    pub fsync_is : fsync_of (part bytes p) ≡ get_or bytes (p + 1) 0 * 65536 + get_or bytes (p + 2) 0 * 256 + get_or bytes (p + 3) 0
    unfolding fsync_of
    fsync_is =
        rw (byte_is 0 (omega arith), byte_is 1 (omega arith), byte_is 2 (omega arith), byte_is 3 (omega arith))
        (omega (arith, small (p + 1), small (p + 2), small (p + 3)))

    module _ (r : Bool) (one : get_or bytes (p + 1) 0 ≡ 0x07 → get_or bytes (p + 2) 0 ≡ 0x3A → get_or bytes (p + 3) 0 ≡ 0xB6 → r ≡ true) (other : get_or bytes (p + 1) 0 ≡ 0xF8 → get_or bytes (p + 2) 0 ≡ 0xC5 → get_or bytes (p + 3) 0 ≡ 0x49 → r ≡ true) where
      pub synced_marked : OneFsync (fsync_of (part bytes p)) → r ≡ true
      synced_marked e = begins _ _ _ r (small (p + 1), small (p + 2), small (p + 3)) one other (subst OneFsync fsync_is e)

      pub unmarked : r ≡ false → refusal_of (part bytes p) ≡ 0 → ⊥
      unmarked m e = let z : ◌≡◌ {A = ℕ} 0 1 = cc (synced_marked (acceptable (part bytes p) e).synced) in omega arith
