-- The entries' bytes, one entry more at a time, and the two outcomes of writing from bytes.
-- Assumes nothing.
use mathlib.Core.List.{List, [], ◌∷◌, ◌++◌}
use mathlib.Core.Path.{◌≡◌, refl, ap, ◌∙◌}
use Prim.Native.Nat.{ℕ, zero, suc, ◌+◌}
use native.Mathlib.Numerals.{add-one}
use borrow.Author.Tests.{eq-eqb, ne_eqb}
use lib.ListN.{length, length-append}
use Rattle.frame.specs.Writing.{Writes}
use Rattle.entries.specs.Entered.{entry_in, entries_to, fields_in, Entered}

pub entries_more : (b : List ℕ) (n : ℕ) → entries_to b (n + 1) ≡ entries_to b n ++ (entry_in b n ∷ [])
unfolding entries_to
entries_more b n = ap (entries_to b) (add-one n)

pub entries_length : (b : List ℕ) (n : ℕ) → length (entries_to b n) ≡ n
unfolding entries_to
entries_length b zero = refl
entries_length b (suc n) = rw (length-append, entries_length b n) (add-one n)

module _ (b main was : List ℕ) where
  pub wrong_length : (length b ≡ 401 → ⊥) → Entered b main was was 1
  wrong_length h = let y = ne_eqb (length b) 401 h in record { number = rw y; output = rw y }

  pub entered : length b ≡ 401 → (left : List ℕ) (r : ℕ) → Writes (fields_in b) main was left r → Entered b main was left r
  entered h left r w =
      let y = eq-eqb (length b) 401 h in
      record { number = w.number ∙ (rw y); output = w.output ∙ (rw y) }
