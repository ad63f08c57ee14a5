-- One outcome for each state, also for one that no frames lead to: the step on the state's numbers, and the buffer after it.
-- Assumes nothing.
use Rattle.std.specs.Prelude.{Bool, true, false, ◌&&◌, List, [], ◌∷◌, ◌++◌, ℕ, ◌+◌, ◌-◌, ◌*◌, ◌%◌, eqb, ltb, take}
use Rattle.sum.specs.Sum.{word, load, after, sent}
use Rattle.octets.specs.Choice.{pick}
use Rattle.octets.specs.Stores.{put}
use Rattle.refusals.specs.Refusals.{refusal_number, refusal_by}
use Rattle.refusals.specs.declared.Refusal.TheVariants.{OutOfPhase, OutOfTurn, ClosingSum}
use Rattle.signalling.specs.declared.Kind.{Kind}
use Rattle.signalling.specs.declared.Kind.TheVariants.{Start, Continuation, End, Other}
use Rattle.signalling.specs.declared.Group.{Group}
use Rattle.signalling.specs.declared.Opened.{Opened}
use Rattle.signalling.specs.declared.State.{State}
use Rattle.signalling.specs.declared.Item.{Item}
use Rattle.signalling.specs.declared.Item.TheVariants.{Nothing, Message, Drop, Refused}
use Rattle.signalling.specs.declared.Taken.{Taken}
use Rattle.signalling.specs.declared.Step.{Step}
use Rattle.signalling.specs.Messages.{SB, kind_of, closing_sum, end_bytes, start_bytes, continuation_bytes}

-- an item's values: its kind, its number (a message's type, a drop's number, a refused call's), a message's length
abbrev pub item_kind : Item → ℕ
item_kind Nothing = 0
item_kind (Message type n) = 1
item_kind (Drop r) = 2
item_kind (Refused r) = 3

abbrev pub item_number : Item → ℕ
item_number Nothing = 0
item_number (Message type n) = type
item_number (Drop r) = refusal_number r
item_number (Refused r) = refusal_number r

abbrev pub item_length : Item → ℕ
item_length Nothing = 0
item_length (Message type n) = n
item_length (Drop r) = 0
item_length (Refused r) = 0

abbrev pub item_values : Item → List ℕ
item_values x = item_kind x ∷ item_number x ∷ item_length x ∷ []

-- the item of its values
abbrev pub item_by : ℕ → ℕ → ℕ → Item
item_by kind number n = pick (eqb kind 0) Nothing (pick (eqb kind 1) (Message number n) (pick (eqb kind 2) (Drop (refusal_by number)) (Refused (refusal_by number))))

-- the word of the sum's register after these bytes more
unfoldable pub fed : ℕ → List ℕ → ℕ
fed crc bytes = word (after (load crc) bytes)

abbrev pub no_message : Opened
no_message = record { on = false; kind = 0; grnb = 0; count = 0; crc = 0 }

abbrev pub no_group : Bool → Group
no_group waiting = record { due = 0; waiting = waiting; p0 = 0; p1 = 0; p2 = 0 }

abbrev pub beginning : State
beginning = record { group = no_group false; message = no_message }

-- ---- a whole group g
unfoldable pub started_by : Bool → List ℕ → Taken
started_by on g =
    record {
      item = pick on (Drop OutOfTurn) Nothing;
      message = record { on = true; kind = SB g 2; grnb = SB g 3; count = 0; crc = fed 65535 g };
    }

abbrev pub not_due : Taken
not_due = record { item = Drop OutOfTurn; message = no_message }

-- where the message bytes go on in the buffer
abbrev pub place_of : Opened → ℕ
place_of m = 4 + 6 * m.count

abbrev pub continuation_due : Opened → Bool
continuation_due m = m.on && ltb m.count m.grnb

abbrev pub end_due : Opened → Bool
end_due m = m.on && eqb m.count m.grnb

unfoldable pub continued_by : Opened → List ℕ → Taken
continued_by m g =
    pick (continuation_due m)
    (record { item = Nothing; message = record { on = true; kind = m.kind; grnb = m.grnb; count = m.count + 1; crc = fed m.crc g } })
    not_due

unfoldable pub ended_by : Opened → List ℕ → Taken
ended_by m g =
    pick (end_due m)
    (record {
      item = pick (eqb (65535 - fed m.crc (take 6 g)) (closing_sum g)) (Message m.kind (8 + 6 * m.count)) (Drop ClosingSum);
      message = no_message;
    })
    not_due

unfoldable pub taken_by : Kind → Opened → List ℕ → Taken
taken_by Start m g = started_by m.on g
taken_by Continuation m g = continued_by m g
taken_by End m g = ended_by m g
taken_by Other m g = record { item = Nothing; message = m }

unfoldable pub buffer_by : Kind → Opened → List ℕ → List ℕ → List ℕ
buffer_by Start m g l = put l 0 (start_bytes g)
buffer_by Continuation m g l = pick (continuation_due m) (put l (place_of m) (continuation_bytes g)) l
buffer_by End m g l = pick (end_due m) (put l (place_of m) (end_bytes g)) l
buffer_by Other m g l = l

-- ---- a frame
abbrev pub stepped : Item → Group → Opened → Step
stepped item g m = record { item = item; state = record { group = g; message = m } }

unfoldable pub out_item : Bool → Item
out_item waiting = pick waiting Nothing (Drop OutOfPhase)

abbrev pub begun_by : ℕ → Group
begun_by mnsc = record { due = 1; waiting = false; p0 = mnsc; p1 = 0; p2 = 0 }

unfoldable pub afresh_by : ℕ → ℕ → Group
afresh_by phase mnsc = pick (eqb phase 0) (begun_by mnsc) (no_group true)

unfoldable pub join_by : Group → ℕ → Group
join_by g mnsc =
    pick (eqb g.due 0) (begun_by mnsc)
    (pick (eqb g.due 1) (record { due = 2; waiting = false; p0 = g.p0; p1 = mnsc; p2 = 0 })
    (record { due = 3; waiting = false; p0 = g.p0; p1 = g.p1; p2 = mnsc }))

abbrev pub whole_group : Group → ℕ → List ℕ
whole_group g mnsc = sent g.p0 ++ sent g.p1 ++ sent g.p2 ++ sent mnsc

unfoldable pub whole_by : Opened → List ℕ → Step
whole_by m g = stepped (taken_by (kind_of g) m g).item (no_group false) (taken_by (kind_of g) m g).message

unfoldable pub step_by : State → ℕ → ℕ → Step
step_by s fp mnsc =
    pick (eqb (fp % 4) s.group.due)
    (pick (eqb s.group.due 3)
    (whole_by s.message (whole_group s.group mnsc))
    (stepped Nothing (join_by s.group mnsc) s.message))
    (stepped (out_item s.group.waiting) (afresh_by (fp % 4) mnsc) s.message)

unfoldable pub step_buffer : State → ℕ → ℕ → List ℕ → List ℕ
step_buffer s fp mnsc l =
    pick (eqb (fp % 4) s.group.due)
    (pick (eqb s.group.due 3)
    (buffer_by (kind_of (whole_group s.group mnsc)) s.message (whole_group s.group mnsc) l)
    l)
    l
