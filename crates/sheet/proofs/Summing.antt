-- A log added to a sheet: a turn of the pass, and every outcome.
-- Assumes nothing.
use mathlib.Core.Bool.{Bool, true, false, not}
use mathlib.Core.List.{List, [], ◌∷◌}
use mathlib.Core.Path.{◌≡◌, refl, sym, ap, ◌∙◌}
use Prim.Native.Nat.{ℕ, ◌+◌, ◌-◌, ◌*◌, ◌%◌, ◌/◌, ◌≤◌, ◌<◌}
use native.Mathlib.Omega.{arith}
use borrow.Author.Tests.{eq-eqb, ne_eqb, lt-ltb, le-ltb, leb-true, ltb-true, not-false}
use lib.Dec.{ltb, leb}
use lib.ListN.{length, get_or}
use Rattle.octets.proofs.Deciding.{both}
use Rattle.frame.specs.Rules.{Rule, ◌when◌}
use Rattle.frame.proofs.FirstRule.{first_found, first_zero, none_hold, none_first}
use Rattle.nightlog.specs.declared.Entry.{Entry}
use Rattle.nightlog.specs.Log.{entry_from, entries_to, bad_from, records_in, records_of, log_rules_of, log_refusal_of, Judges}
use Rattle.nightlog.proofs.Cut.{counted}
use Rattle.nightlog.proofs.Returned.{entries_more, entries_length}
use Rattle.sheet.specs.declared.Run.{Run}
use Rattle.sheet.specs.declared.Sheet.{Sheet}
use Rattle.sheet.specs.Sheets.{totals_added, billion, run_added, added, all_at_most, run_goes_on, goes_on, adding_rules_of, adding_refusal_of, Adds}
use Rattle.sheet.proofs.Gaps.{run_none, run_joined, run_room}
use Rattle.sheet.proofs.Totals.{totals_none, totals_joined, total_le, room_at}

-- what a sheet that goes on is, in plain words
pub run_parts : (r : Run) (most : ℕ) → run_goes_on r most ≡ true → (r.high ≤ most) × (r.low < billion)
unfolding run_goes_on
run_parts r most h =
    let p = both (leb r.high most) _ h in
    let q = both (ltb r.low billion) _ p.1 in
    (leb-true r.high most p.0, ltb-true r.low billion q.0)

module _ (s : Sheet) (n : ℕ) (goes : goes_on s n ≡ true) where
  halves : (all_at_most (18446744073709551615 - n) s.totals ≡ true) × (run_goes_on s.run (18446744073709551615 - n) ≡ true)
  unfolding goes_on
  halves = both (all_at_most (18446744073709551615 - n) s.totals) (run_goes_on s.run (18446744073709551615 - n)) goes

  pub totals_fit : (k : ℕ) → get_or s.totals k 0 ≤ 18446744073709551615 - n
  totals_fit = room_at (18446744073709551615 - n) s.totals halves.0

  pub run_fits : (s.run.high ≤ 18446744073709551615 - n) × (s.run.low < billion)
  run_fits = run_parts s.run (18446744073709551615 - n) halves.1

module _ (s : Sheet) (n : ℕ) where
  pub goes_not : all_at_most (18446744073709551615 - n) s.totals ≡ false → false ≡ goes_on s n
  unfolding goes_on
  goes_not h = rw h

  pub goes_by : (b : Bool) → all_at_most (18446744073709551615 - n) s.totals ≡ true → b ≡ run_goes_on s.run (18446744073709551615 - n) → b ≡ goes_on s n
  unfolding goes_on
  goes_by b h e = rw h e

-- a log of whole records, n of them, and a sheet that can go on with them
pub record Ready (s : Sheet) (l : List ℕ) (n : ℕ) : Type 0 where
  pub even : length l % 16 ≡ 0
  pub records : n ≡ length l / 16
  pub goes : goes_on s n ≡ true
  pub sixteen : length s.totals ≡ 16

-- as the code finds it, from the records that it cut the log into
pub readied : (s : Sheet) (l : List ℕ) (rs : List (List ℕ)) (b : Bool) → (rs ≡ records_of l) × (length l % 16 ≡ 0) → (b ≡ goes_on s (length rs)) × (length s.totals ≡ 16) → b ≡ true → Ready s l (records_in l)
readied s l rs b (cut, even) (e, sixteen) t =
    record { even = even; records = refl; goes = ap (goes_on s) (sym (counted l rs cut)) ∙ sym e ∙ t; sixteen = sixteen }

pub stopped : (s : Sheet) (l : List ℕ) (rs : List (List ℕ)) (b : Bool) → rs ≡ records_of l → b ≡ goes_on s (length rs) → b ≡ false → goes_on s (records_in l) ≡ false
stopped s l rs b cut e f = ap (goes_on s) (sym (counted l rs cut)) ∙ sym e ∙ f

-- ---- a turn of the pass
module _ (s : Sheet) (l : List ℕ) (n : ℕ) (ready : Ready s l n) where
  pub pass_begins : (s.totals ≡ totals_added s.totals (entries_to l 0)) × (s.run ≡ run_added s.run (entries_to l 0))
  unfolding entries_to Rattle.sheet.specs.Sheets.fcts_of
  pass_begins = (totals_none s.totals ready.sixteen, run_none s.run (run_fits s n ready.goes).1)

  module _ (i : ℕ) (t : List ℕ) (r : Run) (et : t ≡ totals_added s.totals (entries_to l i)) (er : r ≡ run_added s.run (entries_to l i)) where
    pub totals_room : i < n → n ≤ 18446744073709551615 → (k : ℕ) → get_or t k 0 < 18446744073709551615
    totals_room h b k = rw et (omega (arith, total_le s.totals (entries_to l i) k, entries_length l i, totals_fit s n ready.goes k))

    pub run_room_at : i < n → n ≤ 18446744073709551615 → (r.low < 1000000000) × (r.high < 18446744073709551615)
    run_room_at h b =
        let f = run_fits s n ready.goes in
        let e = entries_length l i in
        let p = run_room s.run (entries_to l i) n f.1 (omega arith) in
        rw er (p.0, p.1 (omega arith))

    module _ (x : Entry) (ex : x ≡ entry_from l (16 * i)) where
      pub totals_turn : (u : List ℕ) → u ≡ totals_added t (x ∷ []) → u ≡ totals_added s.totals (entries_to l (i + 1))
      totals_turn u p = p ∙ (rw (et, ex, entries_more l i) (totals_joined s.totals (entries_to l i) (entry_from l (16 * i) ∷ [])))

      pub run_turn : (q : Run) → q ≡ run_added r (x ∷ []) → q ≡ run_added s.run (entries_to l (i + 1))
      run_turn q p = p ∙ (rw (er, ex, entries_more l i) (run_joined s.run (entries_to l i) (entry_from l (16 * i) ∷ [])))

  -- ---- its two ends
  module _ (b : ℕ) (first-bad : bad_from l 0 n ≡ b) where
    refused_by : ltb b n ≡ true → adding_refusal_of s l ≡ 29
    unfolding adding_refusal_of
    refused_by h = rw (eq-eqb (length l % 16) 0 ready.even, ← ready.records, first-bad, h)

    pub pass_stops : (m : ℕ) → m ≡ 29 → b < n → Adds s l m b s
    pass_stops m e h =
        let q = refused_by (lt-ltb b n h) in
        record { number = e ∙ sym q; bad = rw (q, ← ready.records, first-bad); sheet = rw q }

    pub pass_ends : (t : List ℕ) (r : Run) → n ≤ b → t ≡ totals_added s.totals (entries_to l n) → r ≡ run_added s.run (entries_to l n) → Adds s l 0 0 (record { totals = t; run = r })
    unfolding adding_refusal_of added
    pass_ends t r h p q =
        let none : adding_refusal_of s l ≡ 0 = rw (eq-eqb (length l % 16) 0 ready.even, ← ready.records, first-bad, le-ltb b n h, ready.goes) in
        record { number = sym none; bad = rw none; sheet = rw (none, ← ready.records) (λ i. record { totals = p i; run = q i }) }

-- ---- the other outcomes
abbrev stop : Sheet → List ℕ → List Rule
stop s l = (12 when not (goes_on s (records_in l))) ∷ []

module _ (s : Sheet) (l : List ℕ) where
  pub adds_odd : (length l % 16 ≡ 0 → ⊥) → Adds s l 28 0 s
  unfolding adding_refusal_of
  adds_odd h =
      let e = ne_eqb (length l % 16) 0 h in
      record { number = rw e; bad = rw e; sheet = rw e }

  module _ (n b : ℕ) (j : Judges l n b) where
    pub adds_judged : (n ≡ 0 → ⊥) → Adds s l n b s
    unfolding adding_refusal_of log_refusal_of
    adds_judged h =
        let e : adding_refusal_of s l ≡ log_refusal_of l = first_found (log_rules_of l) (stop s l) (λ z. h (j.number ∙ z)) in
        record { number = j.number ∙ sym e; bad = rw e j.bad; sheet = rw (e, ← j.number, ne_eqb n 0 h) }

    pub adds_stopped : n ≡ 0 → goes_on s (records_in l) ≡ false → Adds s l 12 0 s
    unfolding adding_refusal_of log_refusal_of
    adds_stopped z st =
        let none = none_hold (log_rules_of l) (tt, (tt, tt)) (sym j.number ∙ z) in
        let e : adding_refusal_of s l ≡ 12 = first_zero (log_rules_of l) (stop s l) none ∙ (rw st) in
        record { number = sym e; bad = rw e; sheet = rw e }

  -- a log that was added was accepted, and the sheet could go on
  pub adding_accepted : adding_refusal_of s l ≡ 0 → (log_refusal_of l ≡ 0) × (goes_on s (records_in l) ≡ true)
  unfolding adding_refusal_of log_refusal_of
  adding_accepted e =
      let p = none_hold (adding_rules_of s l) (tt, (tt, (tt, tt))) e in
      (none_first (log_rules_of l) (p.0, (p.1.0, tt)), not-false _ p.1.1.0)
