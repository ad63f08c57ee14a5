-- What reading answers, as the paper's numbers and values.
-- Assumes nothing.
use Rattle.std.specs.Prelude.{Result, Ok, Err, List, [], ◌∷◌, ◌++◌, ◌⊎◌, ◌≡◌, ℕ, ◌+◌, ◌-◌, ◌≤◌, eqb, ltb, length, replicate}
use Rattle.std.specs.Borrow.{Bor}
pub use Rattle.sum.specs.Sum.{digit}
use Rattle.sum.specs.Sum.{sum_of}
use Rattle.frame.specs.declared.Header.{Header}
use Rattle.frame.specs.declared.Reading.{Reading}
use Rattle.frame.specs.declared.Span.{Span}
use Rattle.frame.specs.declared.Stream.{Stream}
use Rattle.frame.specs.declared.Timestamp.{Timestamp}
use Rattle.frame.specs.declared.Timestamp.TheVariants.{Absent, Time, Reserved}
use Rattle.refusals.specs.Refusals.{outcome_number}
use Rattle.refusals.specs.declared.Refusal.{Refusal}
use Rattle.octets.specs.Choice.{pick, place_in}
use Rattle.frame.specs.Frame.{statuses, err_of, fsyncs, fsync_of, fct_of, ficf_of, nst_of, fp_of, mid_of, fl_of, streams_of, cut, mnsc_of, main_of, main_sum_of, rfu_of, rfa_of, time_of, level_of}
use Rattle.frame.specs.Rules.{refusal_of}

-- annex C.2: a timestamp's sort, 0 where none is given, 1 for a time and 2 for a reserved number, and its number, FFFFFF where none is given
abbrev pub sort_of : Timestamp → ℕ
sort_of Absent = 0
sort_of (Time n) = 1
sort_of (Reserved n) = 2

abbrev pub time_by : Timestamp → ℕ
time_by Absent = 0xFFFFFF
time_by (Time n) = n
time_by (Reserved n) = n

abbrev pub timestamp_values : Timestamp → List ℕ
timestamp_values t = sort_of t ∷ time_by t ∷ []

-- the timestamp of the 24 bits: FFFFFF means that none is given; 0 to F9FFFF is a time, FA0000 to FFFFFE is reserved
unfoldable pub timestamp_for : ℕ → Timestamp
timestamp_for n = pick (eqb n 0xFFFFFF) Absent (pick (ltb 0xF9FFFF n) (Reserved n) (Time n))

-- the values of the fields that return: those that writing takes and reading gives back
abbrev pub returning_values : Header → List ℕ
returning_values h =
    h.level ∷ digit h.fsync1 ∷ h.fct ∷ digit h.ficf ∷ h.nst ∷ h.fp ∷ h.mid ∷ h.fl ∷ h.mnsc ∷ h.rfu ∷ h.rfa ∷ timestamp_values h.timestamp

-- the main-stream sum as sent and as worked out
abbrev pub sum_values : Header → List ℕ
sum_values h = h.sent ∷ h.worked ∷ []

abbrev pub header_values : Header → List ℕ
header_values h = returning_values h ++ sum_values h

-- what reading answers: the header, or why the frame is refused
abbrev pub Answer : Type 0
Answer = Result Header Refusal

-- an answer's number, 0 for accepted, and its values, none for refused
abbrev pub number_of : Answer → ℕ
number_of a = outcome_number a

abbrev pub values_of : Answer → List ℕ
values_of (Ok h) = header_values h
values_of (Err r) = []

-- of its values, the fields that return, and the two sums
abbrev pub returned_of : Answer → List ℕ
returned_of (Ok h) = returning_values h
returned_of (Err r) = []

abbrev pub sums_of : Answer → List ℕ
sums_of (Ok h) = sum_values h
sums_of (Err r) = []

-- ---- what a frame's answer is to be
unfoldable pub returning_of : List ℕ → List ℕ
returning_of f =
    level_of f ∷ place_in fsyncs (fsync_of f) ∷ fct_of f ∷ ficf_of f ∷ nst_of f ∷ fp_of f ∷ mid_of f ∷ fl_of f ∷ mnsc_of f ∷ rfu_of f ∷ rfa_of f ∷ timestamp_values (timestamp_for (time_of f))

unfoldable pub fields_of : List ℕ → List ℕ
fields_of f = returning_of f ++ (main_sum_of f ∷ sum_of (main_of f) ∷ [])

-- the header of a frame, as a value
unfoldable pub header_for : List ℕ → Header
header_for f =
    record {
      level = level_of f;
      fsync1 = eqb (place_in fsyncs (fsync_of f)) 1;
      fct = fct_of f;
      ficf = eqb (ficf_of f) 1;
      nst = nst_of f;
      fp = fp_of f;
      mid = mid_of f;
      fl = fl_of f;
      mnsc = mnsc_of f;
      rfu = rfu_of f;
      rfa = rfa_of f;
      timestamp = timestamp_for (time_of f);
      sent = main_sum_of f;
      worked = sum_of (main_of f);
    }

-- the level handed on is the level read
abbrev pub LevelKept : List ℕ → Type 0
LevelKept f = (header_for f).level ≡ place_in statuses (err_of f)

-- the two sums are equal, or the level read is 2 or 3
abbrev pub Unraised : List ℕ → Type 0
Unraised f = ((header_for f).sent ≡ (header_for f).worked) ⊎ (2 ≤ place_in statuses (err_of f))

abbrev pub no_stream : Stream
no_stream = record { scid = 0; sad = 0; tpl = 0; stl = 0 }

-- the table of 64: zero beyond the entries
unfoldable pub table_by : List Stream → List Stream
table_by ss = ss ++ replicate (64 - length ss) no_stream

-- the reading r of the bytes f
pub record Reads (f : List ℕ) (r : Reading) : Type 0 where
  pub number : number_of r.answer ≡ refusal_of f
  pub values : values_of r.answer ≡ pick (eqb (refusal_of f) 0) (fields_of f) []
  pub table : r.table ≡ pick (eqb (refusal_of f) 0) (table_by (streams_of f)) (table_by [])

-- r is the part p of the lent frame s: its bytes, and its place
pub record PartAt (s : Bor (List ℕ)) (p : Span) (r : Bor (List ℕ)) : Type 0 where
  pub bytes : r.now ≡ cut s.now p
  pub place : r.ref_ptr ≡ (s.ref_ptr.0, p.start + s.ref_ptr.1)
