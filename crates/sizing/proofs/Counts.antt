-- The count in its answer bytes.
-- Assumes nothing.
use Prim.Native.Nat.{ℕ}
use mathlib.Core.Path.{◌≡◌, sym, ap, ◌∙◌}
use mathlib.Core.Bool.{true}
use mathlib.Core.List.{List}
use lib.ListN.{length}
use Rattle.octets.specs.Words.{split, bytes8}
use Rattle.octets.specs.Stores.{put}
use Rattle.octets.proofs.Storing.{put_all}
use Rattle.walk.specs.Records.{limit_refusal_of}
use Rattle.std.specs.Prelude.{Result, Ok}
use Rattle.std.specs.Result.{is_ok}
use Rattle.refusals.specs.declared.Refusal.{Refusal}
use Rattle.looks.specs.Testing.{tests_of, CountsTests}
use Rattle.looks.proofs.Counting.{is_count}
use Rattle.sizing.specs.CountBytes.{count_bytes}

module _ (m : ℕ) (bytes : List ℕ) where
  -- with an allowed limit there is a count, and it is the one
  module _ (z : limit_refusal_of m ≡ 0) (r : Result ℕ Refusal) (c : CountsTests m bytes r) where
    pub never_refused : is_ok r ≡ true
    never_refused = ap is_ok (is_count m bytes z r c)

    pub told_tests : (n : ℕ) → r ≡ Ok n → n ≡ tests_of m bytes
    told_tests n q = let y : r ≡ Ok (tests_of m bytes) = is_count m bytes z r c in cc

  pub stored : (l a : List ℕ) (n : ℕ) → length l ≡ 8 → n ≡ tests_of m bytes → a ≡ put l 0 (split bytes8 n) → a ≡ count_bytes m bytes
  unfolding count_bytes
  stored l a n h e p = p ∙ put_all l (split bytes8 n) (sym h) ∙ ap (split bytes8) e
