-- The words of demand 3, of bytes: "whatever damage comes before, of at least four intact frames at the end the third and every later one is handed out;
-- in lock, one item for each period until three in a row are refused", for any reason but 4. The theorems are `demand_3_first` and `demand_3_second` of proofs/OverBytes.
-- Assumes nothing.
use Rattle.std.specs.Prelude.{not, List, [], ◌∷◌, ◌⊎◌, ◌≡◌, ℕ, zero, suc, ◌+◌, ◌*◌, ◌≤◌, ◌<◌, eqb, leb, length}
use Rattle.frame.specs.declared.Stream.{Stream}
use Rattle.refusals.specs.Refusals.{refusal_by}
use Rattle.octets.specs.Choice.{pick}
use Rattle.frame.specs.Frame.{streams_of}
use Rattle.frame.specs.Rules.{refusal_of, Acceptable, NullTransmission}
use Rattle.frame.specs.Answers.{table_by, header_for}
use Rattle.walk.specs.declared.Item.{Item}
use Rattle.walk.specs.declared.Item.TheVariants.{Lost, Idle, Done}
use Rattle.walk.specs.declared.Step.{Step}
use Rattle.walk.specs.ItemValues.{place_of}
use Rattle.walk.specs.Records.{part, frame_in}

-- what keeps a lock: an acceptable frame or a null transmission
abbrev pub Keeping : List ℕ → Type 0
Keeping f = Acceptable f ⊎ NullTransmission f

-- WHAT IS SUPPOSED: a record that ends with n intact frames, the first of them at a, whatever its first a bytes are
pub record EndsIn (bytes : List ℕ) (a n : ℕ) : Type 0 where
  pub whole : length bytes ≡ a + n * 6144
  pub intact : (i : ℕ) → i < n → Acceptable (part bytes (a + i * 6144))
  -- their sync words take turns
  pub alternating : (i : ℕ) → suc i < n → (header_for (part bytes (a + suc i * 6144))).fsync1 ≡ not (header_for (part bytes (a + i * 6144))).fsync1
  -- from 6,143 bytes before the first of them onward no other place reads as an acceptable frame or as a null transmission
  pub alone : (q : ℕ) → a < q + 6144 → q + 6144 ≤ length bytes → Keeping (part bytes q) → (i : ℕ) × (i < n) × (q ≡ a + i * 6144)

-- of the n periods from p on, no `limit` in a row are all refused for a reason other than 4, but for a run that ends with the last of them
unfoldable pub UnbrokenIn : ℕ → List ℕ → ℕ → ℕ → Type 0
UnbrokenIn limit bytes p n = (i : ℕ) → i + limit < n → (j : ℕ) × (j < limit) × Keeping (part bytes (p + (i + j) * 6144))

-- WHAT IS HANDED OUT by a call of the step: its item and its table
pub record Out : Type 0 where
  pub item : Item
  pub table : List Stream

abbrev pub out_of : Step → Out
out_of r = record { item = r.item; table = r.table }

-- a frame, with the header and the table that reading gives at p
abbrev pub frame_out : List ℕ → ℕ → Out
frame_out bytes p = record { item = frame_in bytes p; table = table_by (streams_of (part bytes p)) }

-- a lost mark, with the refusal at p, which has the number there (`Numbered.refusal_told`), and the zero table
abbrev pub lost_out : List ℕ → ℕ → Out
lost_out bytes p = record { item = Lost p (refusal_by (refusal_of (part bytes p))); table = table_by [] }

-- an idle item, with the zero table
abbrev pub idle_out : ℕ → Out
idle_out p = record { item = Idle p; table = table_by [] }

abbrev pub done_out : ℕ → Out
done_out p = record { item = Done p; table = table_by [] }

-- what is handed out at c or later
unfoldable pub out_since : ℕ → List Out → List Out
out_since c [] = []
out_since c (x ∷ xs) = pick (leb c (place_of x.item)) (x ∷ out_since c xs) (out_since c xs)

-- n frames, one after another, the first at p
unfoldable pub frames_out : List ℕ → ℕ → ℕ → List Out
frames_out bytes p zero = []
frames_out bytes p (suc n) = frame_out bytes p ∷ frames_out bytes (p + 6144) n

-- one item for the period at p: the frame if it is acceptable, an idle item if it is refused with 4, and a lost mark if with another number
unfoldable pub period_out : List ℕ → ℕ → Out
period_out bytes p = pick (eqb (refusal_of (part bytes p)) 0) (frame_out bytes p) (pick (eqb (refusal_of (part bytes p)) 4) (idle_out p) (lost_out bytes p))

-- one for each of n periods from p on
unfoldable pub periods_out : List ℕ → ℕ → ℕ → List Out
periods_out bytes p zero = []
periods_out bytes p (suc n) = period_out bytes p ∷ periods_out bytes (p + 6144) n
