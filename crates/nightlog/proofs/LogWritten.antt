-- WRITTEN, THEN READ: a log of allowed entries is accepted, each record is handed out, and its entries are those that were written.
-- Assumes nothing.
use mathlib.Core.Bool.{true}
use mathlib.Core.List.{List, [], ◌∷◌, ◌++◌}
use mathlib.Core.Path.{◌≡◌, refl, ap, ◌∙◌}
use Prim.Native.Nat.{ℕ, zero, suc, ◌+◌, ◌*◌, ◌%◌, ◌≤◌, ◌<◌}
use native.Mathlib.Omega.{arith}
use borrow.Author.Tests.{eq-eqb, le-ltb, lt-leb}
use lib.ListN.{length}
use Rattle.octets.proofs.Storing.{each_length}
use Rattle.nightlog.specs.declared.Entry.{Entry}
use Rattle.nightlog.specs.Log.{allowed_entry, record_of, log_of, entry_from, tail_from, good_from, records_in, entries_to, entries_of, bad_from, first_bad, log_refusal_of, entry_refusal_of, AllAllowed, PlacesFit}
use Rattle.nightlog.proofs.Returned.{record_length, moved, entry_behind, read_log}

good_first : (e : Entry) (rest : List ℕ) → good_from (record_of e ++ rest) 0 ≡ allowed_entry e
unfolding good_from entry_from tail_from record_of
good_first e rest = refl

good_behind : (r l : List ℕ) → length r ≡ 16 → (at : ℕ) → good_from (r ++ l) (16 + at) ≡ good_from l at
unfolding good_from tail_from
good_behind r l h at =
    rw (entry_behind r l 16 h at, moved r l 16 h at 11, moved r l 16 h at 12, moved r l 16 h at 13, moved r l 16 h at 14, moved r l 16 h at 15)

written_good : (es : List Entry) → AllAllowed es → (k : ℕ) → k < length es → good_from (log_of es) (16 * k) ≡ true
written_good [] a k h = absurd (omega arith)
written_good (e ∷ es) a zero h = good_first e (log_of es) ∙ a.0
written_good (e ∷ es) a (suc k) h =
    let q : 16 * suc k ≡ 16 + 16 * k = omega arith in
    ap (good_from (log_of (e ∷ es))) q ∙ good_behind (record_of e) (log_of es) (record_length e) (16 * k) ∙ written_good es a.1 k (omega arith)

none_bad : (l : List ℕ) (n i : ℕ) → ((k : ℕ) → i ≤ k → k < i + n → good_from l (16 * k) ≡ true) → bad_from l i n ≡ i + n
unfolding bad_from
none_bad l zero i h = omega arith
none_bad l (suc n) i h =
    rw (h i (omega arith) (omega arith)) (none_bad l n (i + 1) (λ (k : ℕ) (a : i + 1 ≤ k) (b : k < i + 1 + n). h k (omega arith) (omega arith)) ∙ omega arith)

module _ (es : List Entry) where
  written_length : length (log_of es) ≡ 16 * length es
  written_length = each_length record_of 16 record_length es

  pub written_records : records_in (log_of es) ≡ length es
  written_records = omega (arith, written_length)

  module _ (a : AllAllowed es) where
    -- neither 28 nor 29
    pub written_accepted : log_refusal_of (log_of es) ≡ 0
    unfolding log_refusal_of
    written_accepted =
        let b = none_bad (log_of es) (records_in (log_of es)) 0 (λ (k : ℕ) (o : 0 ≤ k) (h : k < 0 + records_in (log_of es)). written_good es a k (omega (arith, written_records))) in
        rw (eq-eqb (length (log_of es) % 16) 0 (omega (arith, written_length)), le-ltb (first_bad (log_of es)) (records_in (log_of es)) (omega (arith, b)))

    -- nor 34 for any of its records
    pub written_found : (i : ℕ) → i < length es → entry_refusal_of (log_of es) i ≡ 0
    unfolding entry_refusal_of
    written_found i h =
        rw (eq-eqb (length (log_of es) % 16) 0 (omega (arith, written_length)), lt-leb (records_in (log_of es)) i (omega (arith, written_records)), written_good es a i h)

  pub written_returns : PlacesFit es → entries_of (log_of es) ≡ es
  written_returns p = ap (entries_to (log_of es)) written_records ∙ read_log es p
