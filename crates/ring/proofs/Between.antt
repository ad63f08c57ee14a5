-- The bytes from a place up to another, either of which may lie beyond the end; bytes as rows of 256.
-- Assumes nothing.
use mathlib.Core.List.{List, [], ◌∷◌, ◌++◌}
use mathlib.Core.Path.{◌≡◌, refl, sym, ap, ◌∙◌}
use Prim.Native.Nat.{ℕ, ◌-◌, ◌*◌, ◌/◌, ◌%◌, ◌≤◌, min}
use native.Mathlib.Omega.{arith}
use lib.ListN.{length, take, drop, length-take, length-drop}
use lib.Seq.{take_all}
use Rattle.std.specs.Simd.{first_chunks}
use Rattle.sum.specs.Sum.{Register, after, sum_of}
use Rattle.stretch.specs.Stretch.{after_rows}
use Rattle.stretch.proofs.Stretching.{rows_append, cut, whole}

empty : (l : List ℕ) → length l ≡ 0 → l ≡ []
empty [] e = refl
empty (n ∷ l) e = absurd (omega arith)

module _ (l : List ℕ) (a e : ℕ) where
  -- none of them is there
  pub none_between : min e (length l) ≤ a → 0 ≡ sum_of (take (e - a) (drop a l))
  unfolding sum_of
  none_between h = rw (empty (take (e - a) (drop a l)) (simp (length-take, length-drop) (omega arith)))

-- all the bytes: the odd ones, the rows of 256 before the last, and the last
pub by_rows : (r : Register) (xs odd last : List ℕ) (ws rows : List (List ℕ)) → odd ≡ take (length xs % 256) xs
    → ws ≡ first_chunks 256 (length xs / 256) (drop (length xs % 256) xs) → ws ≡ rows ++ (last ∷ []) → after (after_rows (after r odd) rows) last ≡ after r xs
by_rows r xs odd last ws rows e f g =
    let m = length xs % 256 in
    let k = length xs / 256 in
    let s = after r odd in
    let n = length-drop m xs in
    sym (rows_append s rows (last ∷ []))
    ∙ ap (after_rows s) (sym g ∙ f)
    ∙ cut s 256 k (drop m xs)
    ∙ ap (after s) (take_all (k * 256) (drop m xs) (omega arith))
    ∙ ap (λ (us : List ℕ). after (after r us) (drop m xs)) e
    ∙ whole r xs m
