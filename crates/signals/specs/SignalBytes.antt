-- The 24 bytes of signalling at the C boundary, as docs/BOUNDARY.md lays them out: fields one after another, high byte first.
-- Assumes nothing.
use Rattle.std.specs.Prelude.{List, [], ◌∷◌, ◌++◌, ◌≡◌, ℕ, ◌≤◌, eqb, ltb, length, get_or}
use Rattle.sum.specs.Sum.{digit}
use Rattle.octets.specs.Choice.{pick}
use Rattle.octets.specs.Words.{split, join, bytes8, eight_at}
use Rattle.signalling.specs.declared.Group.{Group}
use Rattle.signalling.specs.declared.Opened.{Opened}
use Rattle.signalling.specs.declared.State.{State}
use Rattle.signalling.specs.declared.Item.{Item}
use Rattle.signalling.specs.declared.Step.{Step}
use Rattle.signalling.specs.Feeding.{giving}
use Rattle.signalling.specs.Groups.{Frame}
use Rattle.signalling.specs.Messages.{Handed}
pub use Rattle.signalling.specs.OnNumbers.{item_kind, item_number, item_length, item_by}
use Rattle.signalling.specs.OnNumbers.{step_by, step_buffer}
use Rattle.signalling.specs.Following.{shown}

-- bytes 0 to 7, widths in bits: the phase due, waiting, and the three pairs
abbrev pub group_widths : List ℕ
group_widths = 8 ∷ 8 ∷ 16 ∷ 16 ∷ 16 ∷ []

abbrev pub group_values : Group → List ℕ
group_values g = g.due ∷ digit g.waiting ∷ g.p0 ∷ g.p1 ∷ g.p2 ∷ []

-- bytes 8 to 15: whether a message is open, its type, GrNb, continuations and register; the item's kind and number
abbrev pub message_widths : List ℕ
message_widths = 8 ∷ 8 ∷ 8 ∷ 8 ∷ 16 ∷ 8 ∷ 8 ∷ []

abbrev pub message_values : Opened → ℕ → ℕ → List ℕ
message_values m kind number = digit m.on ∷ m.kind ∷ m.grnb ∷ m.count ∷ m.crc ∷ kind ∷ number ∷ []

-- then bytes 16 to 23, a message's length
unfoldable pub signal_bytes : Item → State → List ℕ
signal_bytes x s =
    split bytes8 (join group_widths (group_values s.group))
    ++ split bytes8 (join message_widths (message_values s.message (item_kind x) (item_number x)))
    ++ split bytes8 (item_length x)

-- ---- read back
abbrev pub group_field : ℕ → ℕ → ℕ
group_field w k = get_or (split group_widths w) k 0

abbrev pub message_field : ℕ → ℕ → ℕ
message_field w k = get_or (split message_widths w) k 0

unfoldable pub group_in : ℕ → Group
group_in w = record { due = group_field w 0; waiting = eqb (group_field w 1) 1; p0 = group_field w 2; p1 = group_field w 3; p2 = group_field w 4 }

unfoldable pub message_in : ℕ → Opened
message_in w = record { on = eqb (message_field w 0) 1; kind = message_field w 1; grnb = message_field w 2; count = message_field w 3; crc = message_field w 4 }

unfoldable pub state_at : List ℕ → State
state_at w = record { group = group_in (eight_at w 0); message = message_in (eight_at w 8) }

unfoldable pub item_at : List ℕ → Item
item_at w = item_by (message_field (eight_at w 8) 5) (message_field (eight_at w 8) 6) (eight_at w 16)

-- ---- a call
-- 1, other than 24 bytes for the state, or fewer than 1,538 for the message; 12, waiting or open above 1
unfoldable pub signal_refusal : List ℕ → List ℕ → ℕ
signal_refusal w l =
    pick (eqb (length w) 24)
    (pick (ltb (length l) 1538) 1
    (pick (ltb 1 (get_or w 1 0)) 12
    (pick (ltb 1 (get_or w 8 0)) 12
    0)))
    1

-- bytes that a call accepts, with any buffer that is long enough
abbrev pub Accepted : List ℕ → Type 0
Accepted w = (l : List ℕ) → 1538 ≤ length l → signal_refusal w l ≡ 0

abbrev pub left_by : Step → List ℕ
left_by r = signal_bytes r.item r.state

-- a call with the state's bytes w and the buffer l: refused, both are as they were; otherwise they are those of the step; read back
-- they give its state and item, and the next call accepts them
pub record Signalled (fp mnsc : ℕ) (w l : List ℕ) (r : ℕ) (w' l' : List ℕ) : Type 0 where
  pub number : r ≡ signal_refusal w l
  pub signal : w' ≡ pick (eqb (signal_refusal w l) 0) (left_by (step_by (state_at w) fp mnsc)) w
  pub buffer : l' ≡ pick (eqb (signal_refusal w l) 0) (step_buffer (state_at w) fp mnsc l) l
  pub state : signal_refusal w l ≡ 0 → state_at w' ≡ (step_by (state_at w) fp mnsc).state
  pub item : signal_refusal w l ≡ 0 → item_at w' ≡ (step_by (state_at w) fp mnsc).item
  pub next : signal_refusal w l ≡ 0 → Accepted w'

-- calls, one for each frame, each lent the bytes that the call before it left; and all that they hand on
pub data SignalCalls : List ℕ → List ℕ → List Frame → List Handed → Type 0 where
  over : {w l : List ℕ} → SignalCalls w l [] []
  call : {w l w' l' : List ℕ} {r : ℕ} {f : Frame} {fs : List Frame} {xs : List Handed}
      → Signalled f.fp f.mnsc w l r w' l' → SignalCalls w' l' fs xs → SignalCalls w l (f ∷ fs) (giving (shown l' (item_at w')) xs)
