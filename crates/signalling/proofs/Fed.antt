-- Laws of what is fed: lists joined, and one fed what another hands on.
-- Assumes nothing.
use mathlib.Core.List.{List, [], ◌∷◌, ◌++◌}
use mathlib.Core.Option.{Option, none, some}
use mathlib.Core.Path.{◌≡◌, refl, ap, ◌∙◌}
use Rattle.signalling.specs.Feeding.{Took, giving, run, rest}

giving_append : {B : Type 0} (o : Option B) (xs ys : List B) → giving o (xs ++ ys) ≡ giving o xs ++ ys
giving_append none xs ys = refl
giving_append (some x) xs ys = refl

-- nothing, or one thing, and then others
pub giving_then : {B : Type 0} (o : Option B) (xs : List B) → giving o xs ≡ giving o [] ++ xs
giving_then none xs = refl
giving_then (some x) xs = refl

module _ {S A B : Type 0} (f : S → A → Took S B) where
  pub run_append : (s : S) (xs ys : List A) → run f s (xs ++ ys) ≡ run f s xs ++ run f (rest f s xs) ys
  unfolding run rest
  run_append s [] ys = refl
  run_append s (x ∷ xs) ys =
      ap (giving (f s x).gives) (run_append (f s x).goes xs ys)
      ∙ giving_append (f s x).gives (run f (f s x).goes xs) (run f (rest f (f s x).goes xs) ys)

  pub rest_append : (s : S) (xs ys : List A) → rest f s (xs ++ ys) ≡ rest f (rest f s xs) ys
  unfolding rest
  rest_append s [] ys = refl
  rest_append s (x ∷ xs) ys = rest_append (f s x).goes xs ys

  -- one thing more
  pub run_snoc : (s : S) (xs : List A) (x : A) → run f s (xs ++ (x ∷ [])) ≡ run f s xs ++ giving (f (rest f s xs) x).gives []
  unfolding run
  run_snoc s xs x = run_append s xs (x ∷ [])

  pub rest_snoc : (s : S) (xs : List A) (x : A) → rest f s (xs ++ (x ∷ [])) ≡ (f (rest f s xs) x).goes
  unfolding rest
  rest_snoc s xs x = rest_append s xs (x ∷ [])
