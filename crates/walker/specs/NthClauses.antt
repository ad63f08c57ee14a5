-- Nothing in this file need be believed: clauses between private functions.
-- Assumes nothing.
use Rattle.std.specs.Prelude.{Bool, true, ℕ, eqb}
use Rattle.walk.specs.declared.Item.{Item}
use Rattle.walk.specs.declared.Item.TheVariants.{Frame, Lost, Idle, Done}

-- with so many steps left, the step that hands back the item is the last to be taken
unfoldable pub ends_at : ℕ → Item → Bool
ends_at left (Frame p h) = eqb left 0
ends_at left (Lost p n) = eqb left 0
ends_at left (Idle p) = eqb left 0
ends_at left (Done p) = true
