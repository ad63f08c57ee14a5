-- The walk over a record of bytes: its places are judged by the reading, and its items hold what the reading gives there.
-- Assumes nothing.
use Rattle.std.specs.Prelude.{Bool, not, ◌&&◌, List, [], ◌∷◌, ◌≡◌, ℕ, zero, suc, ◌≤◌, eqb, leb, length, Result, Ok, Err}
use Rattle.frame.specs.declared.Stream.{Stream}
use Rattle.frame.specs.Frame.{streams_of}
use Rattle.frame.specs.Rules.{◌when◌, first, refusal_of}
use Rattle.refusals.specs.declared.Refusal.{Refusal}
use Rattle.refusals.specs.Refusals.{refusal_by, outcome_number}
use Rattle.octets.specs.Choice.{pick}
use Rattle.frame.specs.Answers.{digit, table_by, header_for}
pub use Rattle.periods.specs.Periods.{part, fsync1_at, NoneStands}
use Rattle.walk.specs.declared.Item.{Item}
use Rattle.walk.specs.declared.Item.TheVariants.{Frame, Lost, Idle, Done}
use Rattle.walk.specs.declared.Position.{Position}
use Rattle.walk.specs.declared.State.{State}
use Rattle.walk.specs.declared.Step.{Step}
use Rattle.walk.specs.Walk.{Judged, begin, step_of}

-- a place stands if the 6,144 bytes from it are accepted by the reading, and is a null transmission if they are refused with 4; its header and refusal are the reading's
unfoldable pub judged : ℕ → List ℕ → Judged
judged limit bytes =
    record {
      len = length bytes;
      period = 6144;
      limit = limit;
      stands = λ p. eqb (refusal_of (part bytes p)) 0;
      null = λ p. eqb (refusal_of (part bytes p)) 4;
      sync = fsync1_at bytes;
      header = λ p. header_for (part bytes p);
      refusal = λ p. refusal_by (refusal_of (part bytes p));
    }

-- the frame at a place, with the header that the reading gives there
abbrev pub frame_in : List ℕ → ℕ → Item
frame_in bytes p = Frame p (header_for (part bytes p))

-- the table beside an item: that of its frame, and all zero unless it is a frame
unfoldable pub table_of : List ℕ → Item → List Stream
table_of bytes (Frame p h) = table_by (streams_of (part bytes p))
table_of bytes (Lost p n) = table_by []
table_of bytes (Idle p) = table_by []
table_of bytes (Done p) = table_by []

-- A WALK'S STATE: its limit of misses, fixed when it begins, and its position in the record

-- "a number from 1 to 8"
abbrev pub Allowed : ℕ → Type 0
Allowed m = (1 ≤ m) × (m ≤ 8)

unfoldable pub allowed : ℕ → Bool
allowed m = leb 1 m && leb m 8

-- "27, limit outside 1 to 8"
unfoldable pub limit_refusal_of : ℕ → ℕ
limit_refusal_of m = first ((27 when not (allowed m)) ∷ [])

abbrev pub within : ℕ → Position → State
within m p = record { limit = m; position = p }

-- the walk at its beginning
abbrev pub start : ℕ → State
start m = within m begin

-- a walk's values: its limit, its place, its misses, and whether it is in lock
abbrev pub walk_values : State → List ℕ
walk_values s = s.limit ∷ s.position.place ∷ s.position.misses ∷ digit s.position.lock ∷ []

-- of what beginning a walk hands back its values, none for refused
abbrev pub begun_values : Result State Refusal → List ℕ
begun_values (Ok s) = walk_values s
begun_values (Err n) = []

-- what beginning a walk with limit m hands back
pub record Begins (m : ℕ) (r : Result State Refusal) : Type 0 where
  pub number : outcome_number r ≡ limit_refusal_of m
  pub values : begun_values r ≡ pick (allowed m) (walk_values (start m)) []

-- what a step hands back: the item, its table, the advanced walk
unfoldable pub step_with : List ℕ → Item → State → Step
step_with bytes x s = record { item = x; table = table_of bytes x; walk = s }

-- the step over a record, by the walk's rules with its own limit; a walk whose limit is outside 1 to 8 is done where it is
unfoldable pub step_at : List ℕ → State → Step
step_at bytes s =
    pick (allowed s.limit)
    (step_with bytes (step_of (judged s.limit bytes) s.position).item (within s.limit (step_of (judged s.limit bytes) s.position).walk))
    (step_with bytes (Done s.position.place) s)

-- what n calls of the step hand back, one after another: each goes on from the walk that the call before it handed back
unfoldable pub calls_at : List ℕ → ℕ → State → List Step
calls_at bytes zero s = []
calls_at bytes (suc n) s = step_at bytes s ∷ calls_at bytes n (step_at bytes s).walk

-- the state that n calls, one after another, leave
unfoldable pub state_after : List ℕ → ℕ → State → State
state_after bytes zero s = s
state_after bytes (suc n) s = state_after bytes n (step_at bytes s).walk
