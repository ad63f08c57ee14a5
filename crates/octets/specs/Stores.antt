-- A lent slice after stores, and the bytes of a row of things.
-- Assumes nothing.
use Rattle.std.specs.Prelude.{List, [], ◌∷◌, ◌++◌, ℕ, ◌+◌, leb, length, take, drop}
use Rattle.octets.specs.Choice.{pick}

-- l with vs in the place of what stood from `at` on; as it was, where there is no room for them
unfoldable pub put : List ℕ → ℕ → List ℕ → List ℕ
put l at vs = pick (leb (at + length vs) (length l)) (take at l ++ vs ++ drop (at + length vs) l) l

-- the bytes of each of a row, one after the other
abbrev pub bytes_of_each : {A : Type 0} → (A → List ℕ) → List A → List ℕ
bytes_of_each f [] = []
bytes_of_each f (x ∷ xs) = f x ++ bytes_of_each f xs
