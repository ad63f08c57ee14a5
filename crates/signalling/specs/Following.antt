-- What a step says of all the frames seen: the state and the buffer hold what the definitions have after them, and the items are those of the definitions.
-- Assumes nothing.
use Rattle.std.specs.Prelude.{true, false, List, [], ◌∷◌, ◌++◌, ◌≡◌, ℕ, ◌*◌, ◌≤◌, ◌<◌, ltb, length, take}
use Rattle.std.proofs.Math.Option.{Option, none, some}
use Rattle.sum.specs.Sum.{ones, word, after, sent}
use Rattle.octets.specs.Choice.{pick}
use Rattle.refusals.specs.Refusals.{refusal_number}
use Rattle.refusals.specs.declared.Refusal.TheVariants.{Length}
use Rattle.signalling.specs.declared.Group.{Group}
use Rattle.signalling.specs.declared.Opened.{Opened}
use Rattle.signalling.specs.declared.State.{State}
use Rattle.signalling.specs.declared.Item.{Item}
use Rattle.signalling.specs.declared.Item.TheVariants.{Nothing, Message, Drop, Refused}
use Rattle.signalling.specs.declared.Step.{Step}
use Rattle.signalling.specs.Feeding.{giving}
use Rattle.signalling.specs.Groups.{Frame, Gathering, gathering}
use Rattle.signalling.specs.Messages.{Strung, shut, opened, Handed, message, dropped, type_of, gr_nb, group_bytes, message_bytes, items, stringing}
use Rattle.signalling.specs.OnNumbers.{item_values, step_by, step_buffer, place_of, beginning}

-- the bytes of the group so far
abbrev pub gathering_of : Group → Gathering
gathering_of g = record { bytes = take (2 * g.due) (sent g.p0 ++ sent g.p1 ++ sent g.p2); waiting = g.waiting }

-- the open message: its numbers, the sum's register after all bytes of its groups, and its message bytes so far in the buffer
pub record Opens (s : List ℕ) (cs : List (List ℕ)) (m : Opened) (l : List ℕ) : Type 0 where
  pub on : m.on ≡ true
  pub kind : m.kind ≡ type_of s
  pub grnb : m.grnb ≡ gr_nb s
  pub small : m.grnb < 256
  pub count : m.count ≡ length cs
  pub within : m.count ≤ m.grnb
  pub crc : m.crc ≡ word (after ones (group_bytes s cs))
  pub bytes : take (place_of m) l ≡ message_bytes s cs

unfoldable pub Strings : Strung → Opened → List ℕ → Type 0
Strings shut m l = m.on ≡ false
Strings (opened s cs) m l = Opens s cs m l

-- the state s and the buffer l hold what is gathered and what is strung
pub record Holds (gathered : Gathering) (strung : Strung) (s : State) (l : List ℕ) : Type 0 where
  pub due : s.group.due ≤ 3
  pub gathers : gathered ≡ gathering_of s.group
  pub strings : Strings strung s.message l
  pub room : 1538 ≤ length l

-- an item, its message bytes read off the buffer
abbrev pub shown : List ℕ → Item → Option Handed
shown l Nothing = none
shown l (Message type n) = some (message type (take n l))
shown l (Drop r) = some (dropped (refusal_number r))
shown l (Refused r) = none

abbrev pub with_more : List Frame → Frame → List Frame
with_more seen f = seen ++ (f ∷ [])

-- one frame f more than those seen: the item is the one that the definitions have more, and the state goes on holding
pub record Follows (seen : List Frame) (f : Frame) (r : Step) (l : List ℕ) : Type 0 where
  pub item : items (with_more seen f) ≡ items seen ++ giving (shown l r.item) []
  pub holds : Holds (gathering (with_more seen f)) (stringing (with_more seen f)) r.state l

-- a step from s that is lent the buffer l: a buffer shorter than the longest message is refused for its length (1), and nothing is changed
pub record Steps (s : State) (fp mnsc : ℕ) (l : List ℕ) (r : Step) (after : List ℕ) : Type 0 where
  pub item : item_values r.item ≡ item_values (pick (ltb (length l) 1538) (Refused Length) (step_by s fp mnsc).item)
  pub state : r.state ≡ pick (ltb (length l) 1538) s (step_by s fp mnsc).state
  pub buffer : after ≡ pick (ltb (length l) 1538) l (step_buffer s fp mnsc l)
  pub follows : (seen : List Frame) → Holds (gathering seen) (stringing seen) s l → Follows seen (record { fp = fp; mnsc = mnsc }) r after

-- the beginning: it holds, with any buffer that is long enough, what there is before the first frame
pub record Begins (r : State) : Type 0 where
  pub state : r ≡ beginning
  pub holds : (l : List ℕ) → 1538 ≤ length l → Holds (gathering []) (stringing []) r l

-- calls of the step, one for each frame, each with the state and the buffer that the call before it left; and all that they hand on
pub data Calls : State → List ℕ → List Frame → List Handed → Type 0 where
  over : {s : State} {l : List ℕ} → Calls s l [] []
  call : {s : State} {l after : List ℕ} {r : Step} {f : Frame} {fs : List Frame} {xs : List Handed}
      → Steps s f.fp f.mnsc l r after → Calls r.state after fs xs → Calls s l (f ∷ fs) (giving (shown after r.item) xs)
