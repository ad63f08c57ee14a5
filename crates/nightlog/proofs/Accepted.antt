-- What the numbers of a log say in plain words, and what holds of an accepted log.
-- Assumes nothing.
use mathlib.Core.Bool.{Bool, true, false, not}
use mathlib.Core.List.{List, [], ◌∷◌, ◌++◌}
use mathlib.Core.Path.{◌≡◌, refl, sym, ap, ◌∙◌}
use Prim.Native.Nat.{ℕ, zero, suc, ◌+◌, ◌*◌, ◌%◌, ◌≤◌, ◌<◌}
use native.Mathlib.Omega.{arith}
use borrow.Author.Tests.{eqb-true, eqb-false, ltb-false, not-false}
use lib.Dec.{eqb, ltb}
use lib.ListN.{length}
use lib.Seq.{take_all}
use Rattle.octets.specs.Choice.{pick}
use Rattle.octets.proofs.Deciding.{both}
use Rattle.frame.specs.Writing.{Bytes}
use Rattle.frame.proofs.FirstRule.{none_hold}
use Rattle.nightlog.specs.declared.Entry.{Entry}
use Rattle.nightlog.specs.Log.{allowed_entry, entry_from, tail_from, good_from, records_in, entries_to, entries_of, bad_from, first_bad, log_rules_of, log_refusal_of, log_of, AllAllowed}
use Rattle.nightlog.proofs.Returned.{write_log}

pub all_snoc : (es : List Entry) (e : Entry) → AllAllowed es → allowed_entry e ≡ true → AllAllowed (es ++ (e ∷ []))
all_snoc [] e a p = (p, tt)
all_snoc (d ∷ es) e a p = (a.0, all_snoc es e a.1 p)

module _ (l : List ℕ) where
  -- the record named is bad
  pub bad_found : (n i : ℕ) → bad_from l i n < i + n → good_from l (16 * bad_from l i n) ≡ false
  unfolding bad_from
  bad_found zero i h = absurd (omega arith)
  bad_found (suc n) i h = go (good_from l (16 * i)) refl (bad_found n (i + 1)) h
    where
      go : (b : Bool) → good_from l (16 * i) ≡ b → (bad_from l (i + 1) n < i + 1 + n → good_from l (16 * bad_from l (i + 1) n) ≡ false) → pick b (bad_from l (i + 1) n) i < i + suc n → good_from l (16 * pick b (bad_from l (i + 1) n) i) ≡ false
      go true e ih k = ih (omega arith)
      go false e ih k = e

  -- and every one before it is good
  pub good_before : (n i k : ℕ) → i ≤ k → k < bad_from l i n → good_from l (16 * k) ≡ true
  unfolding bad_from
  good_before zero i k o h = absurd (omega arith)
  good_before (suc n) i k o h = go (good_from l (16 * i)) refl (good_before n (i + 1) k) h (eqb i k) refl
    where
      go : (b : Bool) → good_from l (16 * i) ≡ b → (i + 1 ≤ k → k < bad_from l (i + 1) n → good_from l (16 * k) ≡ true) → k < pick b (bad_from l (i + 1) n) i → (c : Bool) → eqb i k ≡ c → good_from l (16 * k) ≡ true
      go true e ih x true q = let p : i ≡ k = eqb-true i k q in ap (λ (j : ℕ). good_from l (16 * j)) (sym p) ∙ e
      go true e ih x false q = let d = eqb-false i k q in ih (omega arith) x
      go false e ih x c q = absurd (omega arith)

  pub good_parts : (at : ℕ) → good_from l at ≡ true → (tail_from l at ≡ 0) × (allowed_entry (entry_from l at) ≡ true)
  unfolding good_from
  good_parts at h =
      let p = both (eqb (tail_from l at) 0) (allowed_entry (entry_from l at)) h in (eqb-true (tail_from l at) 0 p.0, p.1)

  module _ (accepted : log_refusal_of l ≡ 0) where
    rules : (not (eqb (length l % 16) 0) ≡ false) × (ltb (first_bad l) (records_in l) ≡ false)
    unfolding log_refusal_of
    rules = let p = none_hold (log_rules_of l) (tt, (tt, tt)) accepted in (p.0, p.1.0)

    pub whole : length l ≡ 16 * records_in l
    whole = let e = eqb-true (length l % 16) 0 (not-false _ rules.0) in omega arith

    pub all_good : (k : ℕ) → k < records_in l → good_from l (16 * k) ≡ true
    all_good k h = good_before (records_in l) 0 k (omega arith) (omega (arith, ltb-false (first_bad l) (records_in l) rules.1))

    allowed_to : (n : ℕ) → n ≤ records_in l → AllAllowed (entries_to l n)
    unfolding entries_to
    allowed_to zero h = tt
    allowed_to (suc n) h = all_snoc (entries_to l n) (entry_from l (16 * n)) (allowed_to n (omega arith)) (good_parts (16 * n) (all_good n (omega arith))).1

    pub all_allowed : AllAllowed (entries_of l)
    all_allowed = allowed_to (records_in l) (omega arith)

    -- read then written returns the bytes
    pub returned : Bytes l → log_of (entries_of l) ≡ l
    returned b =
        write_log l b (records_in l) (omega (arith, whole)) (λ (i : ℕ) (h : i < records_in l). (good_parts (16 * i) (all_good i h)).0)
        ∙ take_all (16 * records_in l) l (omega (arith, whole))
