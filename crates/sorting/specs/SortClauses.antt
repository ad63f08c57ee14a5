-- Nothing in this file need be believed: clauses between private functions.
-- Assumes nothing.
use Rattle.std.specs.Prelude.{Bool, true, false}
use Rattle.items.specs.declared.Met.{Met}
use Rattle.items.specs.declared.Met.TheVariants.{Never, Once, Several}

abbrev pub is_once : Met → Bool
is_once Never = false
is_once (Once s) = true
is_once Several = false
