-- A WEEK IS ITS NIGHTS: logs added one after the other give the sheet of them joined.
-- Assumes nothing.
use mathlib.Core.List.{List, [], ◌∷◌, ◌++◌, append_assoc, append-nil}
use mathlib.Core.Path.{◌≡◌, refl, sym, ap, ap₂, ◌∙◌}
use Prim.Native.Nat.{ℕ, zero, suc, ◌+◌, ◌*◌, ◌≤◌, ◌<◌}
use native.Mathlib.Omega.{arith}
use lib.ListN.{length, get_or, length-append, get_or-append}
use Rattle.nightlog.specs.declared.Entry.{Entry}
use Rattle.nightlog.specs.Log.{entry_from, entries_to, entries_of, records_in, log_refusal_of}
use Rattle.nightlog.proofs.Accepted.{all_allowed}
use Rattle.nightlog.proofs.Returned.{entry_behind, entries_length}
use Rattle.sheet.specs.declared.Sheet.{Sheet}
use Rattle.sheet.specs.Sheets.{count, is_frame, is_lost, is_idle, in_row, fcts_of, missing, billion, run_by, added, nothing, sheet_of, seam}
use Rattle.sheet.proofs.Gaps.{run_joined, missing_joined}
use Rattle.sheet.proofs.RowsMean.{all_counted, row_of}
use Rattle.sheet.proofs.Totals.{totals_joined, count_append}

-- ---- lists of entries
-- one list added after the other is both at once, whatever the sheet was
pub added_joined : (s : Sheet) (es fs : List Entry) → added (added s es) fs ≡ added s (es ++ fs)
unfolding added
added_joined s es fs = λ i. record { totals = totals_joined s.totals es fs i; run = run_joined s.run es fs i }

-- the sheet of both is the sum of the sheets
pub totals_add : (es fs : List Entry) (k : ℕ) → k < 16 → get_or (sheet_of (es ++ fs)).totals k 0 ≡ get_or (sheet_of es).totals k 0 + get_or (sheet_of fs).totals k 0
totals_add es fs k h = rw (row_of (es ++ fs) k h, row_of es k h, row_of fs k h) (count_append (in_row k) es fs)

-- high and low are the frames missing
pub missing_of : (es : List Entry) → (sheet_of es).run.high * billion + (sheet_of es).run.low ≡ missing es
unfolding added run_by missing
missing_of es = omega arith

-- but for the frames missing across the seam: what is added is its own difference
pub missing_adds : (es fs : List Entry) → (sheet_of (es ++ fs)).run.high * billion + (sheet_of (es ++ fs)).run.low
    ≡ (sheet_of es).run.high * billion + (sheet_of es).run.low + seam (fcts_of es) (fcts_of fs) + ((sheet_of fs).run.high * billion + (sheet_of fs).run.low)
missing_adds es fs = rw (missing_of (es ++ fs), missing_of es, missing_of fs) (missing_joined es fs)

-- ---- logs, as bytes: the entries of two logs joined are those of the one and then those of the other
module _ (l m : List ℕ) where
  front : (k : ℕ) → k < length l → get_or (l ++ m) k 0 ≡ get_or l k 0
  front k h = get_or-append l m 0 k h

  entry_front : (at : ℕ) → at + 16 ≤ length l → entry_from (l ++ m) at ≡ entry_from l at
  unfolding entry_from
  entry_front at h =
      rw (front at (omega arith), front (at + 1) (omega arith), front (at + 2) (omega arith), front (at + 3) (omega arith), front (at + 4) (omega arith), front (at + 5) (omega arith), front (at + 6) (omega arith), front (at + 7) (omega arith), front (at + 8) (omega arith), front (at + 9) (omega arith), front (at + 10) (omega arith))

  entries_front : (n : ℕ) → 16 * n ≤ length l → entries_to (l ++ m) n ≡ entries_to l n
  unfolding entries_to
  entries_front zero h = refl
  entries_front (suc n) h =
      ap₂ (λ (x : List Entry) (y : Entry). x ++ (y ∷ [])) (entries_front n (omega arith)) (entry_front (16 * n) (omega arith))

  entries_joined : (k : ℕ) → length l ≡ 16 * k → (n : ℕ) → entries_to (l ++ m) (k + n) ≡ entries_to l k ++ entries_to m n
  unfolding entries_to
  entries_joined k h zero =
      let z : k + 0 ≡ k = omega arith in
      ap (entries_to (l ++ m)) z ∙ entries_front k (omega arith) ∙ sym (append-nil (entries_to l k))
  entries_joined k h (suc n) =
      let z : k + suc n ≡ suc (k + n) = omega arith in
      let w : 16 * (k + n) ≡ 16 * k + 16 * n = omega arith in
      ap (entries_to (l ++ m)) z
      ∙ ap₂ (λ (x : List Entry) (y : Entry). x ++ (y ∷ [])) (entries_joined k h n) (ap (entry_from (l ++ m)) w ∙ entry_behind l m (16 * k) h (16 * n))
      ∙ append_assoc (entries_to l k) (entries_to m n) (entry_from m (16 * n) ∷ [])

  module _ (even : length l ≡ 16 * records_in l) where
    pub joined : entries_of (l ++ m) ≡ entries_of l ++ entries_of m
    joined =
        let e : records_in (l ++ m) ≡ records_in l + records_in m = omega (arith, length-append l m) in
        ap (entries_to (l ++ m)) e ∙ entries_joined (records_in l) even (records_in m)

    -- A LOG ADDED TO THE SHEET OF ANOTHER gives the sheet of both joined
    pub logs_added : added (sheet_of (entries_of l)) (entries_of m) ≡ sheet_of (entries_of (l ++ m))
    logs_added = added_joined nothing (entries_of l) (entries_of m) ∙ ap sheet_of (sym joined)

-- FRAMES, LOST AND IDLE of an accepted log add up to its number of records
pub adds_up : (l : List ℕ) → log_refusal_of l ≡ 0 → count is_frame (entries_of l) + count is_lost (entries_of l) + count is_idle (entries_of l) ≡ records_in l
adds_up l accepted = all_counted (entries_of l) (all_allowed l accepted) ∙ entries_length l (records_in l)
