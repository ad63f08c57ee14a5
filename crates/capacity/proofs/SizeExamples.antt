-- Sizes at the edges of the tables, computed.
-- Assumes nothing.
use mathlib.Core.List.{[], ◌∷◌}
use mathlib.Core.Path.{◌≡◌, refl}
use Rattle.capacity.specs.Sizes.{size_by, unequal_size, unequal_sizes, equal_size}

-- unequal: 32 kbit/s at level 5 and level 1, 384 at level 1, 320 at level 3 (none), level 6 (none), the reserved bit set, the table switch set
-- equal: A at level 1 and 4 of 8 kbit/s, B at level 2 of 64 kbit/s, B of an STL that is no multiple of 12, option 2
examples : size_by 4 12 ∷ size_by 0 12 ∷ size_by 0 144 ∷ size_by 2 120 ∷ size_by 5 12 ∷ size_by 20 12 ∷ size_by 12 12 ∷ size_by 32 3 ∷ size_by 35 3 ∷ size_by 37 24 ∷ size_by 37 25 ∷ size_by 40 3 ∷ [] ≡ 16 ∷ 35 ∷ 416 ∷ 0 ∷ 0 ∷ 16 ∷ 0 ∷ 12 ∷ 4 ∷ 42 ∷ 0 ∷ 0 ∷ []
unfolding size_by unequal_size unequal_sizes equal_size
examples = refl
