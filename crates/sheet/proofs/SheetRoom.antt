-- A SHEET MADE OF LOGS GOES ON, as long as all its entries together are fewer than 2^64: 12 is for bytes that no call has left.
-- Assumes nothing.
use mathlib.Core.Bool.{Bool, true, false, ◌&&◌}
use mathlib.Core.List.{List, [], ◌∷◌}
use mathlib.Core.Path.{◌≡◌, refl, sym, ap, ◌∙◌}
use Prim.Native.Nat.{ℕ, zero, suc, ◌+◌, ◌-◌, ◌*◌, ◌/◌, ◌%◌, ◌≤◌, ◌<◌}
use native.Mathlib.Omega.{arith}
use borrow.Author.Tests.{eqb-true, le-leb, lt-ltb}
use lib.Dec.{eqb, leb}
use lib.ListN.{length, get_or, replicate}
use Rattle.octets.specs.Choice.{pick}
use Rattle.nightlog.specs.declared.Entry.{Entry}
use Rattle.nightlog.specs.Log.{allowed, AllAllowed}
use Rattle.sheet.specs.declared.Sheet.{Sheet}
use Rattle.sheet.specs.Sheets.{fcts_of, is_frame, missing, billion, gaps, met_after, last_after, run_by, added, sheet_of, all_at_most, run_goes_on, goes_on, totals_to}
use Rattle.sheet.proofs.Gaps.{missing_le, run_room}
use Rattle.sheet.proofs.RowsMean.{frame_parts}
use Rattle.sheet.proofs.Summing.{totals_fit, run_fits}
use Rattle.sheet.proofs.Totals.{total_le}

room_by : (m : ℕ) (t : List ℕ) → ((k : ℕ) → get_or t k 0 ≤ m) → all_at_most m t ≡ true
room_by m [] h = refl
room_by m (x ∷ xs) h = rw (le-leb x m (h 0)) (room_by m xs (λ (k : ℕ). h (suc k)))

zeros : (n k : ℕ) → get_or (replicate {A = ℕ} n 0) k 0 ≡ 0
zeros zero k = refl
zeros (suc n) zero = refl
zeros (suc n) (suc k) = zeros n k

last_le : (es : List Entry) → AllAllowed es → (a : ℕ) → a ≤ 249 → last_after a (fcts_of es) ≤ 249
unfolding fcts_of last_after
last_le [] all a h = h
last_le (e ∷ es) all a h = go (is_frame e) refl (last_le es all.1)
  where
    go : (b : Bool) → is_frame e ≡ b → ((c : ℕ) → c ≤ 249 → last_after c (fcts_of es) ≤ 249) → last_after a (pick b (e.code ∷ fcts_of es) (fcts_of es)) ≤ 249
    go true q ih =
        let p = eqb-true e.kind 0 q in
        let f : allowed 0 e.code e.level ≡ true = sym (ap (λ (k : ℕ). allowed k e.code e.level) p) ∙ all.0 in
        ih e.code (frame_parts e.code e.level f).0
    go false q ih = ih a h

-- nothing met and FCT 0, or met and an FCT
seen : (fs : List ℕ) → last_after 0 fs ≤ 249 → pick (eqb (met_after 0 fs) 0) (eqb (last_after 0 fs) 0) (eqb (met_after 0 fs) 1 && leb (last_after 0 fs) 249) ≡ true
unfolding last_after
seen [] h = refl
seen (a ∷ fs) h = le-leb (last_after a fs) 249 h

module _ (es : List Entry) (all : AllAllowed es) (n : ℕ) (few : length es + n ≤ 18446744073709551615) where
  run_on : run_goes_on (sheet_of es).run (18446744073709551615 - n) ≡ true
  unfolding run_goes_on added run_by missing
  run_on =
      let m : gaps (fcts_of es) ≤ 249 * length es = missing_le es in
      let high : (0 * billion + 0 + gaps (fcts_of es)) / billion ≤ 18446744073709551615 - n = omega arith in
      let low : (0 * billion + 0 + gaps (fcts_of es)) % billion < billion = omega arith in
      rw (le-leb _ _ high, lt-ltb _ _ low) (seen (fcts_of es) (last_le es all 0 (omega arith)))

  pub sheet_goes_on : goes_on (sheet_of es) n ≡ true
  unfolding goes_on added
  sheet_goes_on =
      rw (room_by (18446744073709551615 - n) (totals_to (replicate 16 0) es 16) (λ (k : ℕ). omega (arith, total_le (replicate 16 0) es k, zeros 16 k))) run_on

-- what a sheet holds after a log of n records, where n could be added: every number fits 64 bits
module _ (s : Sheet) (es : List Entry) (goes : goes_on s (length es) ≡ true) where
  pub totals_hold : (k : ℕ) → length es ≤ 18446744073709551615 → get_or (added s es).totals k 0 < 18446744073709551616
  unfolding added
  totals_hold k h = omega (arith, total_le s.totals es k, totals_fit s (length es) goes k)

  pub run_holds : length es ≤ 18446744073709551615 → ((added s es).run.high < 18446744073709551616) × ((added s es).run.low < 18446744073709551616)
  unfolding added
  run_holds h =
      let f = run_fits s (length es) goes in
      let r = run_room s.run es (length es) f.1 (omega arith) in
      (omega (arith, r.2 (omega arith)), omega (arith, r.0))
