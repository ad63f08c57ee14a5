-- Where the period at a place lies, and what there is of it where the record ends before its 6,144 bytes.
-- Assumes nothing.
use mathlib.Core.List.{List}
use mathlib.Core.Path.{◌≡◌, refl, sym, ◌∙◌}
use Prim.Native.Nat.{ℕ, ◌-◌, ◌≤◌, ◌<◌}
use native.Mathlib.Omega.{arith}
use lib.ListN.{length, take, drop, length-drop}
use lib.Seq.{take_all}
use borrow.Author.Tests.{le-leb, lt-leb}
use Rattle.frame.specs.declared.Header.{Header}
use Rattle.walk.specs.declared.Item.{Item}
use Rattle.walk.specs.declared.Item.TheVariants.{Frame, Lost, Idle, Done}
use Rattle.walk.specs.Records.{part}
use Rattle.walker.specs.Advance.{no_part, period_part, frame_part}

pub period_within : (bytes : List ℕ) (p : ℕ) → p ≤ length bytes → period_part bytes p ≡ record { start = p; len = 6144 }
unfolding period_part
period_within bytes p h = rw (le-leb p (length bytes) h)

pub period_beyond : (bytes : List ℕ) (p : ℕ) → length bytes < p → period_part bytes p ≡ no_part
unfolding period_part
period_beyond bytes p h = rw (lt-leb p (length bytes) h)

-- an item that is no frame has no part
pub no_frame : (bytes : List ℕ) (x : Item) → ((p : ℕ) (h : Header) → x ≡ Frame p h → ⊥) → frame_part bytes x ≡ no_part
unfolding frame_part
no_frame bytes (Frame p h) f = absurd (f p h refl)
no_frame bytes (Lost p n) f = refl
no_frame bytes (Idle p) f = refl
no_frame bytes (Done p) f = refl

pub short : (bytes : List ℕ) (p : ℕ) → length bytes - p < 6144 → take (length bytes - p) (drop p bytes) ≡ part bytes p
short bytes p h =
    take_all (length bytes - p) (drop p bytes) (omega (arith, length-drop p bytes)) ∙ sym (take_all 6144 (drop p bytes) (omega (arith, h, length-drop p bytes)))
