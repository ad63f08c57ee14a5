-- The bytes from a place up to another, either of which may lie beyond the end.
-- Assumes nothing.
use mathlib.Core.List.{List}
use mathlib.Core.Path.{◌≡◌, sym, ◌∙◌}
use Prim.Native.Nat.{ℕ, ◌-◌, ◌≤◌, min}
use native.Mathlib.Decide.{dec_le}
use native.Mathlib.Omega.{arith}
use lib.ListN.{length, take, drop, length-drop}
use lib.Seq.{take_all}

-- those that are there
module _ (l : List ℕ) (a e : ℕ) where
  pub some_between : take (min e (length l) - a) (drop a l) ≡ take (e - a) (drop a l)
  some_between = go (dec_le e (length l))
    where
      go : Dec (e ≤ length l) → take (min e (length l) - a) (drop a l) ≡ take (e - a) (drop a l)
      go (yes h) = let m : min e (length l) ≡ e = omega arith in rw m
      go (no h) = take_all (min e (length l) - a) (drop a l) (simp length-drop (omega arith)) ∙ sym (take_all (e - a) (drop a l) (simp length-drop (omega arith)))
