-- The walk that holds its record: at its beginning, after a step, and what its n-th step hands back.
-- Assumes nothing.
use Rattle.std.specs.Prelude.{List, ◌≡◌, ℕ, leb, length, get_or}
use Rattle.std.specs.Borrow.{Bor}
use Rattle.refusals.specs.Refusals.{outcome_number}
use Rattle.frame.specs.declared.Span.{Span}
use Rattle.octets.specs.Choice.{pick}
use Rattle.frame.specs.Answers.{PartAt}
use Rattle.walk.specs.declared.Item.{Item}
use Rattle.walk.specs.declared.Item.TheVariants.{Frame, Lost, Idle, Done}
use Rattle.walk.specs.declared.State.{State}
use Rattle.walk.specs.declared.Step.{Step}
use Rattle.walk.specs.Walk.{begin, items, rest}
use Rattle.walk.specs.Records.{judged, part, allowed, limit_refusal_of, start, step_at, state_after}
use Rattle.walker.specs.declared.Walk.{Walk}
use Rattle.walker.specs.declared.Advanced.{Advanced}
use Rattle.walker.specs.declared.Reached.{Reached}
use Rattle.walker.specs.declared.Started.{Started}

-- an empty part at the record's start
abbrev pub no_part : Span
no_part = record { start = 0; len = 0 }

-- where the period at a place lies, as far as the record goes; no part beyond its end
unfoldable pub period_part : List ℕ → ℕ → Span
period_part bytes p = pick (leb p (length bytes)) (record { start = p; len = 6144 }) no_part

-- where an item's frame lies: the period at its place, and no part unless it is a frame
unfoldable pub frame_part : List ℕ → Item → Span
frame_part bytes (Frame p h) = period_part bytes p
frame_part bytes (Lost p n) = no_part
frame_part bytes (Idle p) = no_part
frame_part bytes (Done p) = no_part

-- r is the item's frame, as a part of the record s itself: its bytes, and its place in memory
abbrev pub FrameAt : Bor (List ℕ) → Item → Bor (List ℕ) → Type 0
FrameAt s x r = PartAt s (frame_part s.now x) r

-- the part that a walk begun with limit m holds: the whole record, and no part where the limit is refused
unfoldable pub held_part : ℕ → List ℕ → Span
held_part m bytes = pick (allowed m) (record { start = 0; len = length bytes }) no_part

-- its state: hunting at place 0; where the limit is refused it has none, and is done there
unfoldable pub start_of : ℕ → State
start_of m = pick (allowed m) (start m) (start 0)

-- the walk begun with limit m: the outcome's number, and the walk's state
abbrev pub Starts : ℕ → Started → Type 0
Starts m r = (outcome_number r.outcome ≡ limit_refusal_of m) × (r.walk.state ≡ start_of m)

-- what the walk finds from where it stands
abbrev pub found : Walk → Step
found w = step_at w.«record».now w.state

-- the item, its table, its frame, which is a reference of its own, and the same record at the state after
abbrev pub advanced : Walk → Bor (List ℕ) → Advanced
advanced w f = record { item = (found w).item; table = (found w).table; frame = f; walk = record { «record» = w.«record»; state = (found w).walk } }

-- what the step after n steps from the beginning hands back
abbrev pub nth_of : ℕ → List ℕ → ℕ → Step
nth_of m bytes n = step_at bytes (state_after bytes n (start_of m))

-- the outcome's number, and that step
abbrev pub Reaches : ℕ → List ℕ → ℕ → Reached → Type 0
Reaches m bytes n r = (outcome_number r.outcome ≡ limit_refusal_of m) × (r.step ≡ nth_of m bytes n)

-- the n-th of the items that the record's walk with limit m hands out; after the last of them done, where the walk rests; where the limit is refused, done at place 0
unfoldable pub item_of : ℕ → List ℕ → ℕ → Item
item_of m bytes n = pick (allowed m) (get_or (items (judged m bytes) begin) n (Done (rest (judged m bytes) begin).place)) (Done 0)

-- the frame beside an item is the whole period at the item's place; beside the others stands none
abbrev pub FrameWhole : List ℕ → Item → Type 0
FrameWhole bytes (Frame p h) = (frame_part bytes (Frame p h) ≡ record { start = p; len = 6144 }) × (length (part bytes p) ≡ 6144)
FrameWhole bytes (Lost p n) = Unit {0}
FrameWhole bytes (Idle p) = Unit {0}
FrameWhole bytes (Done p) = Unit {0}
