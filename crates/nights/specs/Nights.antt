-- A walk's item as an entry of the log, T-13, and a night's items as a log's entries.
-- Assumes nothing.
use Rattle.std.specs.Prelude.{List, [], ◌∷◌, ℕ, eqb}
use Rattle.octets.specs.Choice.{pick}
use Rattle.refusals.specs.Refusals.{refusal_number}
use Rattle.nightlog.specs.declared.Entry.{Entry}
use Rattle.walk.specs.declared.Item.{Item}
use Rattle.walk.specs.declared.Item.TheVariants.{Frame, Lost, Idle, Done}
use Rattle.walk.specs.declared.Step.{Step}
use Rattle.walk.specs.ItemValues.{done_kind, kind_of, place_of}

-- a frame's FCT, a lost mark's refusal number, and 4; done has none
abbrev pub code_of : Item → ℕ
code_of (Frame p h) = h.fct
code_of (Lost p n) = refusal_number n
code_of (Idle p) = 4
code_of (Done p) = 0

-- FF unless a frame
abbrev pub level_in : Item → ℕ
level_in (Frame p h) = h.level
level_in (Lost p n) = 0xFF
level_in (Idle p) = 0xFF
level_in (Done p) = 0xFF

-- of done the kind is none that a record may have, so it is refused
abbrev pub entry_of : Item → Entry
entry_of x = record { place = place_of x; kind = kind_of x; code = code_of x; level = level_in x }

-- a night's entries: one for each item that calls of the step hand out, but done
unfoldable pub night_entries : List Step → List Entry
night_entries [] = []
night_entries (r ∷ rs) = pick (eqb (kind_of r.item) done_kind) (night_entries rs) (entry_of r.item ∷ night_entries rs)
