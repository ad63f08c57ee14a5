-- The sheet of a log, T-13: each total is that of the list of entries, and further logs are added to it.
-- Assumes nothing.
use Rattle.std.specs.Prelude.{Bool, not, ◌&&◌, List, [], ◌∷◌, ◌++◌, ◌≡◌, ℕ, zero, suc, ◌+◌, ◌-◌, ◌*◌, ◌%◌, ◌/◌, eqb, ltb, leb, get_or, replicate, Result, Ok, Err}
use Rattle.std.specs.List.{list_all}
use Rattle.octets.specs.Choice.{pick}
use Rattle.sum.specs.Sum.{digit}
use Rattle.frame.specs.Rules.{Rule, ◌when◌, first}
use Rattle.refusals.specs.declared.Refusal.{Refusal}
use Rattle.refusals.specs.declared.Refusal.TheVariants.{TooWide}
use Rattle.refusals.specs.Refusals.{refusal_number}
use Rattle.nightlog.specs.declared.Entry.{Entry}
use Rattle.nightlog.specs.Log.{refusal_for as log_refusal_for, bad_in, frame_kind, lost_kind, idle_kind, records_in, entries_of, first_bad, log_rules_of}
use Rattle.sheet.specs.declared.Run.{Run}
use Rattle.sheet.specs.declared.Sheet.{Sheet}
pub use Rattle.sheet.specs.declared.NotAdded.{NotAdded}
use Rattle.sheet.specs.declared.NotAdded.TheVariants.{Log, CannotGoOn}

-- how many entries pass the test
unfoldable pub count : (Entry → Bool) → List Entry → ℕ
count t [] = 0
count t (e ∷ es) = digit (t e) + count t es

-- ---- the tests: a frame, one at a level; a lost mark, one of a refusal number; idle
abbrev pub is_frame : Entry → Bool
is_frame e = eqb e.kind frame_kind

abbrev pub is_lost : Entry → Bool
is_lost e = eqb e.kind lost_kind

abbrev pub is_idle : Entry → Bool
is_idle e = eqb e.kind idle_kind

abbrev pub frame_at : ℕ → Entry → Bool
frame_at level e = is_frame e && eqb e.level level

abbrev pub lost_by : ℕ → Entry → Bool
lost_by refusal e = is_lost e && eqb e.code refusal

-- ---- the sixteen totals: row 0 to 3 frames at that level, row 4 + n lost marks of refusal n, row 15 idle
unfoldable pub row_by : ℕ → ℕ → ℕ → ℕ
row_by kind code level = pick (eqb kind frame_kind) level (pick (eqb kind lost_kind) (4 + code) 15)

abbrev pub in_row : ℕ → Entry → Bool
in_row k e = eqb (row_by e.kind e.code e.level) k

-- the first n totals, these entries added to them
unfoldable pub totals_to : List ℕ → List Entry → ℕ → List ℕ
totals_to t es zero = []
totals_to t es (suc n) = totals_to t es n ++ ((get_or t n 0 + count (in_row n) es) ∷ [])

abbrev pub totals_added : List ℕ → List Entry → List ℕ
totals_added t es = totals_to t es 16

-- ---- frames missing: from each frame to the next, others skipped, the difference of FCT less one, modulo 250
unfoldable pub fcts_of : List Entry → List ℕ
fcts_of [] = []
fcts_of (e ∷ es) = pick (is_frame e) (e.code ∷ fcts_of es) (fcts_of es)

-- 499 is twice 250 less one, so that nothing that a byte holds goes below zero; `gap_right` of proofs/Gaps says it without
abbrev pub gap : ℕ → ℕ → ℕ
gap a b = (b + 499 - a) % 250

unfoldable pub gaps_after : ℕ → List ℕ → ℕ
gaps_after a [] = 0
gaps_after a (b ∷ bs) = gap a b + gaps_after b bs

unfoldable pub gaps : List ℕ → ℕ
gaps [] = 0
gaps (a ∷ bs) = gaps_after a bs

unfoldable pub missing : List Entry → ℕ
missing es = gaps (fcts_of es)

-- ---- what is kept from frame to frame: the frames missing so far as high * 1,000,000,000 + low, whether a frame was met, the last one's FCT
abbrev pub billion : ℕ
billion = 1000000000

-- these FCTs behind the last frame's, where one was met
abbrev pub followed : Run → List ℕ → List ℕ
followed r fs = pick (eqb r.met 0) fs (r.fct ∷ fs)

abbrev pub missing_with : Run → List ℕ → ℕ
missing_with r fs = r.high * billion + r.low + gaps (followed r fs)

abbrev pub met_after : ℕ → List ℕ → ℕ
met_after m [] = m
met_after m (a ∷ bs) = 1

unfoldable pub last_after : ℕ → List ℕ → ℕ
last_after a [] = a
last_after a (b ∷ bs) = last_after b bs

unfoldable pub run_by : Run → List ℕ → Run
run_by r fs =
    record { high = missing_with r fs / billion; low = missing_with r fs % billion; met = met_after r.met fs; fct = last_after r.fct fs }

abbrev pub run_added : Run → List Entry → Run
run_added r es = run_by r (fcts_of es)

-- ---- THE SHEET of a list: its entries added to the sheet of nothing
unfoldable pub added : Sheet → List Entry → Sheet
added s es = record { totals = totals_added s.totals es; run = run_added s.run es }

abbrev pub nothing : Sheet
nothing = record { totals = replicate 16 0; run = record { high = 0; low = 0; met = 0; fct = 0 } }

abbrev pub sheet_of : List Entry → Sheet
sheet_of es = added nothing es

-- the total of row k in it
abbrev pub total : List Entry → ℕ → ℕ
total es k = get_or (sheet_of es).totals k 0

-- what the seam of two lists adds: the difference from the last FCT of the one to the first of the other
abbrev pub seam : List ℕ → List ℕ → ℕ
seam [] bs = 0
seam (a ∷ bs) [] = 0
seam (a ∷ bs) (c ∷ ds) = gap (last_after a bs) c

-- ---- whether n entries more can be added to a sheet: none of its totals can overflow, and the rest is as a sheet has it
abbrev pub all_at_most : ℕ → List ℕ → Bool
all_at_most m xs = list_all (λ x. leb x m) xs

unfoldable pub run_goes_on : Run → ℕ → Bool
run_goes_on r most =
    leb r.high most && (ltb r.low billion && pick (eqb r.met 0) (eqb r.fct 0) (eqb r.met 1 && leb r.fct 249))

unfoldable pub goes_on : Sheet → ℕ → Bool
goes_on s n = all_at_most (18446744073709551615 - n) s.totals && run_goes_on s.run (18446744073709551615 - n)

-- ---- a log added to a sheet: the log's refusals, then 12
abbrev pub adding_rules_of : Sheet → List ℕ → List Rule
adding_rules_of s l = log_rules_of l ++ ((12 when not (goes_on s (records_in l))) ∷ [])

unfoldable pub adding_refusal_of : Sheet → List ℕ → ℕ
adding_refusal_of s l = first (adding_rules_of s l)

-- ---- what a log that is not added is told with: its refusal, and the bad record for 29
abbrev pub refusal_for : NotAdded → Refusal
refusal_for (Log why) = log_refusal_for why
refusal_for CannotGoOn = TooWide

abbrev pub bad_of : NotAdded → ℕ
bad_of (Log why) = bad_in why
bad_of CannotGoOn = 0

-- an outcome's number, its bad record, and the sheet behind it: as it was, where nothing is added
abbrev pub added_number : Result Sheet NotAdded → ℕ
added_number (Ok t) = 0
added_number (Err why) = refusal_number (refusal_for why)

abbrev pub added_bad : Result Sheet NotAdded → ℕ
added_bad (Ok t) = 0
added_bad (Err why) = bad_of why

abbrev pub sheet_after : Sheet → Result Sheet NotAdded → Sheet
sheet_after s (Ok t) = t
sheet_after s (Err why) = s

-- the number n, the bad record b for 29, and the sheet t, as it was where it is refused
pub record Adds (s : Sheet) (l : List ℕ) (n b : ℕ) (t : Sheet) : Type 0 where
  pub number : n ≡ adding_refusal_of s l
  pub bad : b ≡ pick (eqb (adding_refusal_of s l) 29) (first_bad l) 0
  pub sheet : t ≡ pick (eqb (adding_refusal_of s l) 0) (added s (entries_of l)) s
