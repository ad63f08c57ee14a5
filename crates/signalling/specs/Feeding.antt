-- What is fed one thing after another, and each time hands on one thing or nothing.
-- Assumes nothing.
use Rattle.std.specs.Prelude.{List, [], ◌∷◌}
use Rattle.std.proofs.Math.Option.{Option, none, some}

-- what is handed on, and the successor
pub record Took (S B : Type 0) : Type 0 where
  pub gives : Option B
  pub goes : S

abbrev pub giving : {B : Type 0} → Option B → List B → List B
giving none l = l
giving (some x) l = x ∷ l

-- all that is handed on, of a list fed from the state s on
unfoldable pub run : {S A B : Type 0} → (S → A → Took S B) → S → List A → List B
run f s [] = []
run f s (x ∷ xs) = giving (f s x).gives (run f (f s x).goes xs)

-- the state after it
unfoldable pub rest : {S A B : Type 0} → (S → A → Took S B) → S → List A → S
rest f s [] = s
rest f s (x ∷ xs) = rest f (f s x).goes xs
