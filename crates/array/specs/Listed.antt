-- Lists given by what stands at each place.
-- Assumes nothing.
use Rattle.std.specs.Prelude.{List, [], ◌∷◌, ◌++◌, ℕ, zero, suc}

-- f's values at 0, 1, up to n - 1
abbrev pub list : {A : Type 0} → (ℕ → A) → ℕ → List A
list f zero = []
list f (suc n) = list f n ++ (f n ∷ [])
