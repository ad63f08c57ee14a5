-- The fault log of T-13: records of sixteen bytes, no header.
-- Assumes nothing.
use Rattle.std.specs.Prelude.{Bool, true, not, ◌&&◌, List, [], ◌∷◌, ◌++◌, ◌≡◌, ℕ, zero, suc, ◌+◌, ◌*◌, ◌/◌, ◌%◌, ◌^◌, ◌<◌, eqb, ltb, leb, length, get_or, Option, Some, None, Result, Ok, Err}
use Rattle.std.specs.Simd.{first_chunks}
use Rattle.octets.specs.Choice.{pick}
use Rattle.octets.specs.Stores.{bytes_of_each}
use Rattle.octets.specs.Words.{split, bytes8, eight_at}
use Rattle.frame.specs.Rules.{Rule, ◌when◌, first}
use Rattle.refusals.specs.declared.Refusal.{Refusal}
use Rattle.refusals.specs.declared.Refusal.TheVariants.{LogLength, NotAllowed}
use Rattle.refusals.specs.Refusals.{refusal_number}
use Rattle.nightlog.specs.declared.Entry.{Entry}
pub use Rattle.nightlog.specs.declared.BadLog.{BadLog}
use Rattle.nightlog.specs.declared.BadLog.TheVariants.{Length, Record}

-- refusals 2 to 10, 4 never in lost
unfoldable pub lost_code : ℕ → Bool
lost_code c = leb 2 c && (leb c 10 && not (eqb c 4))

-- the kinds
abbrev pub frame_kind : ℕ
frame_kind = 0

abbrev pub lost_kind : ℕ
lost_kind = 1

abbrev pub idle_kind : ℕ
idle_kind = 2

-- ALLOWED: of a frame FCT 0 to 249, level 0 to 3; otherwise level FF, and of a lost mark its refusal, of idle 4
unfoldable pub allowed : ℕ → ℕ → ℕ → Bool
allowed kind code level =
    pick (eqb kind frame_kind)
    (leb code 249 && leb level 3)
    (eqb level 0xFF && pick (eqb kind lost_kind) (lost_code code) (eqb kind idle_kind && eqb code 4))

abbrev pub allowed_entry : Entry → Bool
allowed_entry e = allowed e.kind e.code e.level

-- ---- one record: 8 bytes place, 1 kind, 1 code, 1 level, 5 zero
unfoldable pub record_of : Entry → List ℕ
record_of e = split bytes8 e.place ++ (e.kind ∷ e.code ∷ e.level ∷ 0 ∷ 0 ∷ 0 ∷ 0 ∷ 0 ∷ [])

-- the log of a list of entries
abbrev pub log_of : List Entry → List ℕ
log_of es = bytes_of_each record_of es

-- ---- what stands in a log from byte `at` on
unfoldable pub entry_from : List ℕ → ℕ → Entry
entry_from l at =
    record { place = eight_at l at; kind = get_or l (at + 8) 0; code = get_or l (at + 9) 0; level = get_or l (at + 10) 0 }

-- the sum of the tail's five bytes: 0 where all are zero, and only there
unfoldable pub tail_from : List ℕ → ℕ → ℕ
tail_from l at = get_or l (at + 11) 0 + get_or l (at + 12) 0 + get_or l (at + 13) 0 + get_or l (at + 14) 0 + get_or l (at + 15) 0

unfoldable pub good_from : List ℕ → ℕ → Bool
good_from l at = eqb (tail_from l at) 0 && allowed_entry (entry_from l at)

-- ---- the records of a log, counted from 0
abbrev pub records_in : List ℕ → ℕ
records_in l = length l / 16

-- a log's whole records, sixteen bytes each
abbrev pub records_of : List ℕ → List (List ℕ)
records_of l = first_chunks 16 (records_in l) l

-- the entry of one record, where it is good
abbrev pub entry_of_record : List ℕ → Option Entry
entry_of_record r = pick (good_from r 0) (Some (entry_from r 0)) None

-- the first n entries
unfoldable pub entries_to : List ℕ → ℕ → List Entry
entries_to l zero = []
entries_to l (suc n) = entries_to l n ++ (entry_from l (16 * n) ∷ [])

abbrev pub entries_of : List ℕ → List Entry
entries_of l = entries_to l (records_in l)

-- the number of the first bad record of those from i on, of which n are left; the number behind the last where all are good
unfoldable pub bad_from : List ℕ → ℕ → ℕ → ℕ
bad_from l i zero = i
bad_from l i (suc n) = pick (good_from l (16 * i)) (bad_from l (i + 1) n) i

abbrev pub first_bad : List ℕ → ℕ
first_bad l = bad_from l 0 (records_in l)

-- ---- a log judged
abbrev pub log_rules_of : List ℕ → List Rule
log_rules_of l = (28 when not (eqb (length l % 16) 0)) ∷ (29 when ltb (first_bad l) (records_in l)) ∷ []

unfoldable pub log_refusal_of : List ℕ → ℕ
log_refusal_of l = first (log_rules_of l)

-- ---- what a refused log is told with: its refusal, and the bad record for 29
abbrev pub refusal_for : BadLog → Refusal
refusal_for Length = LogLength
refusal_for (Record b) = NotAllowed

abbrev pub bad_in : BadLog → ℕ
bad_in Length = 0
bad_in (Record b) = b

-- the number and the bad record of an outcome
abbrev pub judged_number : {A : Type 0} → Result A BadLog → ℕ
judged_number (Ok x) = 0
judged_number (Err why) = refusal_number (refusal_for why)

abbrev pub judged_bad : {A : Type 0} → Result A BadLog → ℕ
judged_bad (Ok x) = 0
judged_bad (Err why) = bad_in why

-- a log's number n, and the record that it names: the bad one for 29, else 0
pub record Judges (l : List ℕ) (n b : ℕ) : Type 0 where
  pub number : n ≡ log_refusal_of l
  pub bad : b ≡ pick (eqb (log_refusal_of l) 29) (first_bad l) 0

-- ---- record i read: 28, then 34 where there is no such record, then 29; refused, all is zero
unfoldable pub entry_refusal_of : List ℕ → ℕ → ℕ
entry_refusal_of l i =
    first ((28 when not (eqb (length l % 16) 0)) ∷ (34 when leb (records_in l) i) ∷ (29 when not (good_from l (16 * i))) ∷ [])

abbrev pub no_entry : Entry
no_entry = record { place = 0; kind = 0; code = 0; level = 0 }

-- the entry that is handed out, zeros where none is
abbrev pub found_entry : Result Entry Refusal → Entry
found_entry (Ok e) = e
found_entry (Err r) = no_entry

pub record Finds (l : List ℕ) (i n : ℕ) (e : Entry) : Type 0 where
  pub number : n ≡ entry_refusal_of l i
  pub entry : e ≡ pick (eqb (entry_refusal_of l i) 0) (entry_from l (16 * i)) no_entry

-- ---- an entry written into as many lent bytes: 37, then 29
unfoldable pub writing_refusal_of : Entry → ℕ → ℕ
writing_refusal_of e lent = first ((37 when not (eqb lent 16)) ∷ (29 when not (allowed_entry e)) ∷ [])

-- writing answers r and leaves `after` in what held `before`
pub record WritesEntry (e : Entry) (before after : List ℕ) (r : ℕ) : Type 0 where
  pub number : r ≡ writing_refusal_of e (length before)
  pub output : after ≡ pick (eqb (writing_refusal_of e (length before)) 0) (record_of e) before

-- ---- of a list of entries: every one is allowed; every place is within its eight bytes
abbrev pub AllAllowed : List Entry → Type 0
AllAllowed [] = Unit {0}
AllAllowed (e ∷ es) = (allowed_entry e ≡ true) × AllAllowed es

abbrev pub PlacesFit : List Entry → Type 0
PlacesFit [] = Unit {0}
PlacesFit (e ∷ es) = (e.place < 2 ^ 64) × PlacesFit es
