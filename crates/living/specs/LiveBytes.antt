-- The walk's bytes after a step over a live line, as docs/BOUNDARY.md lays them out.
-- Assumes nothing.
use Rattle.std.specs.Prelude.{List, [], ◌∷◌, ℕ, eqb, ltb, get_or}
use Rattle.frame.specs.Rules.{◌when◌, first}
use Rattle.walk.specs.declared.State.{State}
use Rattle.walk.specs.ItemValues.{kind_of, place_of, number_of}
use Rattle.block.specs.WalkBytes.{told_bytes, item_fct, item_level, state_in}
use Rattle.live.specs.declared.LiveStep.{LiveStep}
use Rattle.live.specs.declared.Told.{Told}
use Rattle.live.specs.declared.Told.TheVariants.{Got, More}
use Rattle.live.specs.Live.{live_at}

-- one kind more than the items have: more bytes are wanted
abbrev pub more_kind : ℕ
more_kind = 4

abbrev pub told_kind : Told → ℕ
told_kind (Got x) = kind_of x
told_kind (More p) = more_kind

abbrev pub told_number : Told → ℕ
told_number (Got x) = number_of x
told_number (More p) = 0

-- an item's place in the line, or the place before which all may be forgotten
abbrev pub told_place : Told → ℕ
told_place (Got x) = place_of x
told_place (More p) = p

-- a frame's FCT and level
abbrev pub told_fct : Told → ℕ
told_fct (Got x) = item_fct x
told_fct (More p) = 0

abbrev pub told_level : Told → ℕ
told_level (Got x) = item_level x
told_level (More p) = 0

-- a walk's 23 bytes, as of every walk
unfoldable pub live_bytes : Told → State → List ℕ
live_bytes t s = told_bytes s (told_kind t) (told_number t) (told_place t) (told_fct t) (told_level t)

abbrev pub held_by : LiveStep → List ℕ
held_by r = live_bytes r.told r.walk

-- a walk's bytes w after a step over a window of the line
abbrev pub live_of : List ℕ → ℕ → List ℕ → List ℕ
live_of window more w = held_by (live_at window (eqb more 1) (state_in w))

-- the lock is one bit, and so is `more`: above 1 it is a value wider than its field
unfoldable pub live_refusal_of : ℕ → List ℕ → ℕ
live_refusal_of more w = first ((12 when ltb 1 (get_or w 9 0)) ∷ (12 when ltb 1 more) ∷ [])
