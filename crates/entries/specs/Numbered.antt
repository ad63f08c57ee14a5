-- An item of a walk, asked for by its number, in ten bytes: the first that stand behind the state in the boundary's walk.
-- Assumes nothing.
use Rattle.std.specs.Prelude.{List, ◌∷◌, ℕ}
use Rattle.walk.specs.declared.Item.{Item}
use Rattle.octets.specs.Words.{split, bytes8}
use Rattle.walk.specs.ItemValues.{kind_of, number_of, place_of}

-- a kind, a refusal number and a place
abbrev pub ten_bytes : ℕ → ℕ → ℕ → List ℕ
ten_bytes kind number place = kind ∷ number ∷ split bytes8 place

unfoldable pub item_bytes : Item → List ℕ
item_bytes x = ten_bytes (kind_of x) (number_of x) (place_of x)
