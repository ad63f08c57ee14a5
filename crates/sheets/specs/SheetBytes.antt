-- Sheets at the C boundary, as docs/BOUNDARY.md lays them out: fields one after another, high byte first.
-- Assumes nothing.
use Rattle.std.specs.Prelude.{List, [], ◌∷◌, ◌++◌, ◌≡◌, ℕ, zero, suc, ◌*◌, ◌<◌, ◌^◌, length, get_or, replicate}
use Rattle.octets.specs.Stores.{bytes_of_each}
use Rattle.octets.specs.Words.{split, bytes8, eight_at}
use Rattle.nightlog.specs.Log.{records_in, entries_of, AllAllowed}
use Rattle.sheet.specs.declared.Sheet.{Sheet}
use Rattle.sheet.specs.Sheets.{added, sheet_of, adding_refusal_of}
use Rattle.controller.specs.Boundary.{Told}

-- a sheet, 146 bytes: the sixteen totals, high, low, whether a frame was met, and the last one's FCT
unfoldable pub sheet_bytes : Sheet → List ℕ
sheet_bytes s = bytes_of_each (split bytes8) s.totals ++ split bytes8 s.run.high ++ split bytes8 s.run.low ++ (s.run.met ∷ s.run.fct ∷ [])

-- ---- read back
-- the first n totals
unfoldable pub totals_in : List ℕ → ℕ → List ℕ
totals_in b zero = []
totals_in b (suc n) = totals_in b n ++ (eight_at b (8 * n) ∷ [])

unfoldable pub sheet_in : List ℕ → Sheet
sheet_in b =
    record { totals = totals_in b 16; run = record { high = eight_at b 128; low = eight_at b 136; met = get_or b 144 0; fct = get_or b 145 0 } }

-- a log's entries added to the sheet in these bytes
unfoldable pub added_bytes : List ℕ → List ℕ → List ℕ
added_bytes l b = sheet_bytes (added (sheet_in b) (entries_of l))

-- ---- a week from C: logs, each as long as a slice can be, added one after the other to a sheet of zeros; each call is lent the bytes that the call before it
-- left, and answers 0
pub data Summed : List ℕ → List ℕ → Type 0 where
  none : Summed [] (replicate 146 0)
  more : {l was left : List ℕ} (m : List ℕ) → length m < 2 ^ 64 → Summed l was → Told 146 (adding_refusal_of (sheet_in was) m) (added_bytes m was) was left 0 → Summed (l ++ m) left

-- what they leave: b are the bytes of the sheet of all the logs joined, l, and are read as that sheet; the records of l are whole, and all are allowed
pub record Week (l b : List ℕ) : Type 0 where
  pub even : length l ≡ 16 * records_in l
  pub bytes : b ≡ sheet_bytes (sheet_of (entries_of l))
  pub read : sheet_in b ≡ sheet_of (entries_of l)
  pub allowed : AllAllowed (entries_of l)
