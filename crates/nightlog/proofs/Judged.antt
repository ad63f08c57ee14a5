-- Judging a log, reading a record, writing an entry: every outcome.
-- Assumes nothing.
use mathlib.Core.Bool.{Bool, true, false, not}
use mathlib.Core.List.{List}
use mathlib.Core.Path.{◌≡◌, refl, ◌∙◌}
use Prim.Native.Nat.{ℕ, suc, ◌+◌, ◌-◌, ◌*◌, ◌%◌, ◌≤◌, ◌<◌}
use native.Mathlib.Omega.{arith}
use borrow.Author.Tests.{eq-eqb, ne_eqb, lt-ltb, le-ltb, le-leb, lt-leb}
use lib.Dec.{ltb}
use lib.ListN.{length}
use Rattle.std.specs.List.{position}
use Rattle.std.specs.Option.{ok_or}
use Rattle.std.proofs.Common.{Option, Some, None, Ok, Err, take, drop, get_or}
use Rattle.octets.specs.Choice.{pick}
use Rattle.refusals.specs.declared.Refusal.TheVariants.{NotAllowed}
use Rattle.refusals.specs.Refusals.{outcome_number}
use Rattle.nightlog.specs.declared.Entry.{Entry}
use Rattle.nightlog.specs.Log.{allowed, allowed_entry, entry_from, tail_from, good_from, records_in, records_of, entry_of_record, bad_from, first_bad, log_refusal_of, Judges, entry_refusal_of, no_entry, found_entry, Finds, writing_refusal_of, WritesEntry, record_of}
use Rattle.nightlog.proofs.Cut.{entry_in, good_in, counted, chunk_at, bad_found_at, none_found}

pub tail_bad : (l : List ℕ) (at t : ℕ) → t ≡ tail_from l at → (t ≡ 0 → ⊥) → false ≡ good_from l at
unfolding good_from
tail_bad l at t e h = rw (← e, ne_eqb t 0 h)

pub tail_good : (l : List ℕ) (at t : ℕ) (r : Bool) → t ≡ tail_from l at → t ≡ 0 → r ≡ allowed (get_or l (at + 8) 0) (get_or l (at + 9) 0) (get_or l (at + 10) 0) → r ≡ good_from l at
unfolding good_from entry_from
tail_good l at t r e h q = rw (← e, eq-eqb t 0 h) q

module _ (l : List ℕ) where
  turn : (i n : ℕ) → i < n → bad_from l i (n - i) ≡ pick (good_from l (16 * i)) (bad_from l (i + 1) (n - (i + 1))) i
  unfolding bad_from
  turn i n h = let e : n - i ≡ suc (n - (i + 1)) = omega arith in rw e

  pub bad_begin : (n : ℕ) → bad_from l 0 n ≡ bad_from l 0 (n - 0)
  bad_begin n = let e : n - 0 ≡ n = omega arith in rw e

  pub bad_stop : (i n : ℕ) → i < n → good_from l (16 * i) ≡ false → bad_from l i (n - i) ≡ i
  bad_stop i n h b = turn i n h ∙ (rw b)

  pub bad_more : (i n : ℕ) → i < n → good_from l (16 * i) ≡ true → bad_from l i (n - i) ≡ bad_from l (i + 1) (n - (i + 1))
  bad_more i n h b = turn i n h ∙ (rw b)

  pub bad_end : (i n : ℕ) → n ≤ i → bad_from l i (n - i) ≡ i
  unfolding bad_from
  bad_end i n h = let e : n - i ≡ 0 = omega arith in rw e

  -- ---- judging
  pub odd : (length l % 16 ≡ 0 → ⊥) → Judges l 28 0
  unfolding log_refusal_of
  odd h = record { number = rw (ne_eqb (length l % 16) 0 h); bad = rw (ne_eqb (length l % 16) 0 h) }

  module _ (even : length l % 16 ≡ 0) where
    pub bad : (b : ℕ) → Some b ≡ position (λ r. not (good_from r 0)) (records_of l) → Judges l 29 b
    unfolding log_refusal_of
    bad b e =
        let p = bad_found_at l b e in
        let q : ltb (first_bad l) (records_in l) ≡ true = rw (← p.0) (lt-ltb b (records_in l) p.1) in
        record { number = rw (eq-eqb (length l % 16) 0 even, q); bad = rw (eq-eqb (length l % 16) 0 even, q) p.0 }

    pub good : None ≡ position (λ r. not (good_from r 0)) (records_of l) → Judges l 0 0
    unfolding log_refusal_of
    good e =
        let q : ltb (first_bad l) (records_in l) ≡ false = le-ltb (first_bad l) (records_in l) (none_found l e) in
        record { number = rw (eq-eqb (length l % 16) 0 even, q); bad = rw (eq-eqb (length l % 16) 0 even, q) }

  -- ---- reading record i
  module _ (i : ℕ) where
    pub find_odd : (length l % 16 ≡ 0 → ⊥) → Finds l i 28 no_entry
    unfolding entry_refusal_of
    find_odd h = record { number = rw (ne_eqb (length l % 16) 0 h); entry = rw (ne_eqb (length l % 16) 0 h) }

    module _ (even : length l % 16 ≡ 0) where
      pub find_beyond : records_in l ≤ i → Finds l i 34 no_entry
      unfolding entry_refusal_of
      find_beyond h =
          let q = le-leb (records_in l) i h in
          record { number = rw (eq-eqb (length l % 16) 0 even, q); entry = rw (eq-eqb (length l % 16) 0 even, q) }

      pub find_here : i < records_in l → (r : List ℕ) → r ≡ take 16 (drop (16 * i) l)
          → Finds l i (outcome_number (ok_or (entry_of_record r) NotAllowed)) (found_entry (ok_or (entry_of_record r) NotAllowed))
      unfolding entry_refusal_of
      find_here h r e = rw (e, good_in l (16 * i), entry_in l (16 * i)) (go (good_from l (16 * i)) refl)
        where
          go : (b : Bool) → good_from l (16 * i) ≡ b
              → Finds l i (outcome_number (ok_or (pick b (Some (entry_from l (16 * i))) None) NotAllowed)) (found_entry (ok_or (pick b (Some (entry_from l (16 * i))) None) NotAllowed))
          go true e = record { number = rw (eq-eqb (length l % 16) 0 even, lt-leb (records_in l) i h, e); entry = rw (eq-eqb (length l % 16) 0 even, lt-leb (records_in l) i h, e) }
          go false e = record { number = rw (eq-eqb (length l % 16) 0 even, lt-leb (records_in l) i h, e); entry = rw (eq-eqb (length l % 16) 0 even, lt-leb (records_in l) i h, e) }

-- ---- what a caller that goes over the records learns of one
module _ (l : List ℕ) (rs : List (List ℕ)) (cut : rs ≡ records_of l) (i : ℕ) (d : List ℕ) (h : i < length rs) (o : Option Entry) (e : o ≡ entry_of_record (get_or rs i d)) where
  by_good : o ≡ pick (good_from l (16 * i)) (Some (entry_from l (16 * i))) None
  by_good =
      let k : i < records_in l = omega (arith, counted l rs cut) in
      e ∙ (rw (cut, chunk_at (records_in l) i l d k, good_in l (16 * i), entry_in l (16 * i)))

  module _ {E : Type 0} (y : E) where
    pub found_good : (x : Entry) → Ok x ≡ ok_or o y → (good_from l (16 * i) ≡ true) × (x ≡ entry_from l (16 * i))
    found_good x p = go (good_from l (16 * i)) refl by_good
      where
        go : (b : Bool) → good_from l (16 * i) ≡ b → o ≡ pick b (Some (entry_from l (16 * i))) None → (good_from l (16 * i) ≡ true) × (x ≡ entry_from l (16 * i))
        go true q g = (q, cc (rw g at p))
        go false q g = absurd (cc (rw g at p))

    pub found_bad : (x : E) → Err x ≡ ok_or o y → (good_from l (16 * i) ≡ false) × (x ≡ y)
    found_bad x p = go (good_from l (16 * i)) refl by_good
      where
        go : (b : Bool) → good_from l (16 * i) ≡ b → o ≡ pick b (Some (entry_from l (16 * i))) None → (good_from l (16 * i) ≡ false) × (x ≡ y)
        go true q g = absurd (cc (rw g at p))
        go false q g = (q, cc (rw g at p))

-- ---- writing
module _ (e : Entry) (before after : List ℕ) where
  pub not-sixteen : (length before ≡ 16 → ⊥) → after ≡ before → WritesEntry e before after 37
  unfolding writing_refusal_of
  not-sixteen h p = record { number = rw (ne_eqb (length before) 16 h); output = rw (ne_eqb (length before) 16 h) p }

  pub not-allowed : length before ≡ 16 → allowed_entry e ≡ false → after ≡ before → WritesEntry e before after 29
  unfolding writing_refusal_of
  not-allowed h a p = record { number = rw (eq-eqb (length before) 16 h, a); output = rw (eq-eqb (length before) 16 h, a) p }

  pub written : length before ≡ 16 → allowed_entry e ≡ true → after ≡ record_of e → WritesEntry e before after 0
  unfolding writing_refusal_of
  written h a p = record { number = rw (eq-eqb (length before) 16 h, a); output = rw (eq-eqb (length before) 16 h, a) p }
