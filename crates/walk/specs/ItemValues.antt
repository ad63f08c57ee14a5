-- An item's kind, place and values.
-- Assumes nothing.
use Rattle.std.specs.Prelude.{List, [], ◌∷◌, ℕ}
use Rattle.frame.specs.Answers.{header_values}
use Rattle.refusals.specs.Refusals.{refusal_number}
use Rattle.walk.specs.declared.Item.{Item}
use Rattle.walk.specs.declared.Item.TheVariants.{Frame, Lost, Idle, Done}

-- the numbers of the kinds, as T-13's log has them
abbrev pub frame_kind : ℕ
frame_kind = 0

abbrev pub lost_kind : ℕ
lost_kind = 1

abbrev pub idle_kind : ℕ
idle_kind = 2

abbrev pub done_kind : ℕ
done_kind = 3

abbrev pub kind_of : Item → ℕ
kind_of (Frame p h) = frame_kind
kind_of (Lost p n) = lost_kind
kind_of (Idle p) = idle_kind
kind_of (Done p) = done_kind

abbrev pub place_of : Item → ℕ
place_of (Frame p h) = p
place_of (Lost p n) = p
place_of (Idle p) = p
place_of (Done p) = p

-- the refusal number of its place: a lost mark's, 4 of an idle item, 0 of a frame; and 0 of done
abbrev pub number_of : Item → ℕ
number_of (Frame p h) = 0
number_of (Lost p n) = refusal_number n
number_of (Idle p) = 4
number_of (Done p) = 0

-- what it holds: a frame's header, a lost mark's refusal number, the number 4
abbrev pub held_in : Item → List ℕ
held_in (Frame p h) = header_values h
held_in (Lost p n) = refusal_number n ∷ []
held_in (Idle p) = 4 ∷ []
held_in (Done p) = []

unfoldable pub item_values : Item → List ℕ
item_values x = kind_of x ∷ place_of x ∷ held_in x
