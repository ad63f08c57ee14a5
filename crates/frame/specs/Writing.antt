-- Writing: the fields given, when they are refused, and the one frame that they call for.
-- Assumes nothing.
use Rattle.std.specs.Prelude.{Bool, false, not, ◌||◌, List, [], ◌∷◌, ◌++◌, ◌≡◌, ℕ, ◌+◌, ◌-◌, ◌*◌, ◌^◌, ◌<◌, ◌≤◌, eqb, ltb, leb, length, get_or, take, drop, replicate}
use Rattle.sum.specs.Sum.{sum_of}
use Rattle.frame.specs.declared.Fields.{Fields}
use Rattle.frame.specs.declared.Stream.{Stream}
use Rattle.frame.specs.declared.Timestamp.{Timestamp}
use Rattle.frame.specs.declared.Timestamp.TheVariants.{Absent, Time, Reserved}
use Rattle.octets.specs.Words.{split, join, Fit, bytes2, bytes4}
use Rattle.octets.specs.Choice.{pick}
use Rattle.octets.specs.Stores.{bytes_of_each}
use Rattle.frame.specs.Frame.{sync_widths, status_by, fsync_by, fc_widths, fl_of, ficl_by, sstc_widths, streams_of, stl_total, fl_by, main_of, main_sum_of, tist_widths, carried_by}
use Rattle.frame.specs.Rules.{Rule, ◌when◌, first, some_stl_above, refusal_of}
use Rattle.frame.specs.Answers.{digit, time_by, timestamp_values, returning_of}

-- the entries that have effect: those below the count, of all 64
abbrev pub entries_of : Fields → List Stream
entries_of x = take x.count x.table

abbrev pub ficl_in : Fields → ℕ
ficl_in x = ficl_by (digit x.ficf) x.mid

-- FL is worked out
unfoldable pub fl_in : Fields → ℕ
fl_in x = fl_by x.count (ficl_in x) (stl_total (entries_of x))

-- the fields as the paper's values, in the order of those that reading gives back
unfoldable pub values_in : Fields → List ℕ
values_in x =
    x.level ∷ digit x.fsync1 ∷ x.fct ∷ digit x.ficf ∷ x.count ∷ x.fp ∷ x.mid ∷ fl_in x ∷ x.mnsc ∷ x.rfu ∷ x.rfa ∷ timestamp_values x.timestamp

-- ---- refusal 12: a value wider than its field; the count is judged by 5 alone
abbrev pub some_wider : List ℕ → List ℕ → Bool
some_wider [] vs = false
some_wider (k ∷ ks) [] = false
some_wider (k ∷ ks) (v ∷ vs) = leb (2 ^ k) v || some_wider ks vs

-- a number outside its sort's range: a time is at most F9FFFF, a reserved number FA0000 to FFFFFE
abbrev pub time_wider : Timestamp → Bool
time_wider Absent = false
time_wider (Time n) = ltb 0xF9FFFF n
time_wider (Reserved n) = ltb n 0xFA0000 || ltb 0xFFFFFE n

abbrev pub stream_values : Stream → List ℕ
stream_values s = s.scid ∷ s.sad ∷ s.tpl ∷ s.stl ∷ []

unfoldable pub some_stream_wider : List Stream → Bool
some_stream_wider [] = false
some_stream_wider (s ∷ ss) = some_wider sstc_widths (stream_values s) || some_stream_wider ss

-- the widths of FCT, FP, MID, MNSC, Rfu, Rfa, and these values
abbrev pub plain_widths : List ℕ
plain_widths = 8 ∷ 3 ∷ 2 ∷ 16 ∷ 16 ∷ 8 ∷ []

abbrev pub plain_in : Fields → List ℕ
plain_in x = x.fct ∷ x.fp ∷ x.mid ∷ x.mnsc ∷ x.rfu ∷ x.rfa ∷ []

-- a level is 0 to 3
unfoldable pub wider : Fields → Bool
wider x =
    (ltb 3 x.level || some_wider plain_widths (plain_in x)) || (time_wider x.timestamp || some_stream_wider (entries_of x))

-- ---- writing's rules, in its order, of the fields and the lengths of main stream and output lent
abbrev pub writing_rules_of : Fields → ℕ → ℕ → List Rule
writing_rules_of x main out =
    (1 when not (eqb out 6144))
    ∷ (12 when wider x)
    ∷ (5 when ltb 64 x.count)
    ∷ (7 when ltb 249 x.fct)
    ∷ (8 when some_stl_above 684 (entries_of x))
    ∷ (10 when ltb 1532 (fl_in x))
    ∷ (11 when not (eqb main (4 * ficl_in x + 8 * stl_total (entries_of x))))
    ∷ []

unfoldable pub writing_refusal_of : Fields → ℕ → ℕ → ℕ
writing_refusal_of x main out = first (writing_rules_of x main out)

-- each value of each entry is within its width
abbrev pub AllFit : List Stream → Type 0
AllFit [] = Unit {0}
AllFit (s ∷ ss) = Fit sstc_widths (stream_values s) × AllFit ss

-- fields that writing accepts, in plain words; main is the length of the main stream lent
pub record Writable (x : Fields) (main : ℕ) : Type 0 where
  pub level : x.level ≤ 3
  pub plain : Fit plain_widths (plain_in x)
  pub time : time_wider x.timestamp ≡ false
  pub entries : AllFit (entries_of x)
  pub streams : x.count ≤ 64
  pub counted : x.fct ≤ 249
  pub lengths : some_stl_above 684 (entries_of x) ≡ false
  pub room : fl_in x ≤ 1532
  pub whole : main ≡ 4 * ficl_in x + 8 * stl_total (entries_of x)

-- ---- the frame
-- the entries, a word for each
abbrev pub stream_bytes : Stream → List ℕ
stream_bytes s = split bytes4 (join sstc_widths (stream_values s))

unfoldable pub streams_bytes : List Stream → List ℕ
streams_bytes ss = bytes_of_each stream_bytes ss

-- figure 6, SYNC
unfoldable pub sync_in : Fields → List ℕ
sync_in x = split bytes4 (join sync_widths (status_by x.level ∷ fsync_by (digit x.fsync1) ∷ []))

-- figure 5, FC, STC and MNSC: what the header sum is over
unfoldable pub header_in : Fields → List ℕ
header_in x =
    split bytes4 (join fc_widths (x.fct ∷ digit x.ficf ∷ x.count ∷ x.fp ∷ x.mid ∷ fl_in x ∷ []))
    ++ streams_bytes (entries_of x)
    ++ split bytes2 x.mnsc

-- figure 5, what follows the main stream: its sum, Rfu, Rfa and timestamp
unfoldable pub end_in : Fields → List ℕ → List ℕ
end_in x main =
    split bytes2 (sum_of main) ++ split bytes2 x.rfu ++ split bytes4 (join tist_widths (x.rfa ∷ time_by x.timestamp ∷ []))

-- the padding is 55
unfoldable pub frame_in : Fields → List ℕ → List ℕ
frame_in x main =
    sync_in x
    ++ header_in x
    ++ split bytes2 (sum_of (header_in x))
    ++ main
    ++ end_in x main
    ++ replicate (6144 - carried_by (fl_in x)) 0x55

-- the output after writing: the frame, or, refused, as it was
unfoldable pub written_of : Fields → List ℕ → List ℕ → List ℕ
written_of x main out = pick (eqb (writing_refusal_of x (length main) (length out)) 0) (frame_in x main) out

-- writing answers r and leaves `left` in the output that held `was`
pub record Writes (x : Fields) (main was left : List ℕ) (r : ℕ) : Type 0 where
  pub number : r ≡ writing_refusal_of x (length main) (length was)
  pub output : left ≡ written_of x main was

-- ---- what the round trips suppose of a frame: its elements are bytes; its main-stream sum is right and all its padding is 55
abbrev pub Bytes : List ℕ → Type 0
Bytes f = (k : ℕ) → get_or f k 0 < 256

pub record Clean (f : List ℕ) : Type 0 where
  pub sum : sum_of (main_of f) ≡ main_sum_of f
  pub padding : drop (carried_by (fl_of f)) f ≡ replicate (6144 - carried_by (fl_of f)) 0x55

-- f, read, gives back x and m, and is clean
pub record Returned (x : Fields) (m f : List ℕ) : Type 0 where
  pub number : refusal_of f ≡ 0
  pub values : returning_of f ≡ values_in x
  pub streams : streams_of f ≡ entries_of x
  pub main : main_of f ≡ m
  pub clean : Clean f
