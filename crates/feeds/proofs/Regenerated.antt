-- A regenerated frame, read: it is accepted, and what is read are the items' values and bytes.
-- Assumes nothing.
use mathlib.Core.Bool.{Bool, true, false}
use mathlib.Core.List.{List, [], ◌∷◌, ◌++◌, append-nil, append_assoc}
use mathlib.Core.Path.{◌≡◌, refl, sym, ap, ap₂, ◌∙◌}
use Prim.Native.Nat.{ℕ, zero, suc, ◌+◌, ◌-◌, ◌*◌, ◌≤◌, ◌<◌}
use native.Mathlib.Omega.{arith}
use borrow.Author.Tests.{eq-eqb, eqb-true, eqb-false}
use lib.Dec.{eqb}
use lib.ListN.{length, get_or, take, drop, length-append, length-replicate}
use lib.Seq.{take_at, drop_at, take_all, take-append-le, get_or-append-add}
use Rattle.sum.specs.Sum.{sum_of}
use Rattle.std.specs.Prelude.{Ok, Err}
use Rattle.frame.specs.declared.Reading.{Reading}
use Rattle.frame.specs.declared.Stream.{Stream}
use Rattle.frame.specs.Frame.{fl_by, stl_total}
use Rattle.frame.specs.Rules.{first}
use Rattle.frame.specs.Answers.{Answer, digit, timestamp_values, returned_of, sums_of, no_stream, table_by, Reads}
use Rattle.frame.specs.Writing.{entries_of, fl_in, values_in, writing_rules_of, writing_refusal_of, written_of, Writes}
use Rattle.frame.proofs.FirstRule.{none_hold, first_zero, first_found}
use Rattle.frame.proofs.Headers.{digit_of}
use Rattle.relay.proofs.ReadBack.{back_read}
use Rattle.items.specs.TagItems.{Item, items_of, value_of, highest_in}
use Rattle.tags.specs.TagValues.{level_in, fct_in, ficf_in, fp_in, mid_in, mnsc_in, rfu_in, rfa_in, timestamp_in, ficl_in, fic_in, entry_in, fields_by}
use Rattle.tags.proofs.TagLaws.{ficf_bit, fic_long}
use Rattle.sorting.specs.TagRules.{item_rules_of}
use Rattle.sorting.proofs.OnceMet.{highest_small, Clear, clear}
use Rattle.edi.specs.Regenerating.{entries_to, data_to, fields_for, main_for, regenerating_refusal_of, Regenerates}
use Rattle.edi.proofs.StreamsKept.{entries_more, entries_length, data_more, data_long, data_words, called}
use Rattle.edi.proofs.RegeneratingRules.{fields_entries, ficl_as}
use Rattle.feeds.specs.FromItems.{values_for, FromItems}

pub values_for_lem : (is : List Item) (s : Bool) → values_in (fields_for is s) ≡ values_for is s
unfolding values_in fl_in fields_for fields_by values_for
values_for_lem is s =
    let m = value_of 0 is in
    let f = digit_of (ficf_in m) (ficf_bit m) in
    let e = ap stl_total (fields_entries is s) in
    λ i. level_in m ∷ digit s ∷ fct_in m ∷ f i ∷ highest_in is ∷ fp_in m ∷ mid_in m ∷ fl_by (highest_in is) (Rattle.frame.specs.Frame.ficl_by (f i) (mid_in m)) (e i) ∷ mnsc_in m ∷ rfu_in m ∷ rfa_in m ∷ timestamp_values (timestamp_in m)

table_long : (is : List Item) (s : Bool) → length (fields_for is s).table ≡ 64
unfolding fields_for fields_by table_by
table_long is s =
    let h = highest_small is in
    length-append (entries_to is (highest_in is)) _ ∙ rw (length-replicate, entries_length is (highest_in is)) (omega arith)

apart : (a : Answer) → Rattle.frame.specs.Answers.values_of a ≡ returned_of a ++ sums_of a
apart (Ok h) = refl
apart (Err r) = refl

-- ---- one entry and one stream's data among all
entries_take : (is : List Item) (i n : ℕ) → i ≤ n → take i (entries_to is n) ≡ entries_to is i
unfolding entries_to
entries_take is i zero h = let e : i ≡ 0 = omega arith in rw e
entries_take is i (suc n) h = go (eqb i (suc n)) refl (entries_take is i n)
  where
    go : (b : Bool) → eqb i (suc n) ≡ b → (i ≤ n → take i (entries_to is n) ≡ entries_to is i) → take i (entries_to is n ++ (entry_in (value_of (suc n) is) ∷ [])) ≡ entries_to is i
    go true e before =
        let q = eqb-true i (suc n) e in
        let l = entries_length is (suc n) in
        rw q (take_all (suc n) (entries_to is (suc n)) (omega (arith, l)))
    go false e before =
        let q = eqb-false i (suc n) e in
        let k : i ≤ n = omega (arith, q) in
        take-append-le i (entries_to is n) _ (omega (arith, entries_length is n)) ∙ before k

pub record Among (is : List Item) (i n : ℕ) : Type 0 where
  pub entries_behind : List Stream
  pub entries : entries_to is n ≡ entries_to is i ++ (entry_in (value_of (i + 1) is) ∷ entries_behind)
  pub data_behind : List ℕ
  pub bytes : data_to is n ≡ data_to is i ++ (drop 3 (value_of (i + 1) is) ++ data_behind)

among_more : (is : List Item) (i n : ℕ) → Among is i n → Among is i (n + 1)
among_more is i n a =
    record {
      entries_behind = a.entries_behind ++ (entry_in (value_of (n + 1) is) ∷ []);
      entries = entries_more is n ∙ ap (λ (ss : List Stream). ss ++ (entry_in (value_of (n + 1) is) ∷ [])) a.entries
          ∙ append_assoc (entries_to is i) (entry_in (value_of (i + 1) is) ∷ a.entries_behind) (entry_in (value_of (n + 1) is) ∷ []);
      data_behind = a.data_behind ++ drop 3 (value_of (n + 1) is);
      bytes = data_more is n ∙ ap (λ (l : List ℕ). l ++ drop 3 (value_of (n + 1) is)) a.bytes
          ∙ append_assoc (data_to is i) (drop 3 (value_of (i + 1) is) ++ a.data_behind) (drop 3 (value_of (n + 1) is))
          ∙ ap (λ (l : List ℕ). data_to is i ++ l) (append_assoc (drop 3 (value_of (i + 1) is)) a.data_behind (drop 3 (value_of (n + 1) is)));
    }

among_last : (is : List Item) (i : ℕ) → Among is i (i + 1)
among_last is i =
    record {
      entries_behind = [];
      entries = entries_more is i;
      data_behind = [];
      bytes = data_more is i ∙ ap (λ (l : List ℕ). data_to is i ++ l) (sym (append-nil (drop 3 (value_of (i + 1) is))));
    }

among : (is : List Item) (i d : ℕ) → Among is i (d + (i + 1))
among is i zero = rw (let e : 0 + (i + 1) ≡ i + 1 = omega arith in e) (among_last is i)
among is i (suc d) = rw (let e : suc d + (i + 1) ≡ d + (i + 1) + 1 = omega arith in e) (among_more is i (d + (i + 1)) (among is i d))

among_all : (is : List Item) (i n : ℕ) → i < n → Among is i n
among_all is i n h = rw (let e : n ≡ n - (i + 1) + (i + 1) = omega arith in e) (among is i (n - (i + 1)))

-- ---- the theorem
module _ (p : List ℕ) (s : Bool) (was left : List ℕ) (n : ℕ) (g : Regenerates p s was left n) (e : n ≡ 0) where
  abbrev is : List Item
  is = items_of p

  refusal : regenerating_refusal_of is s (length was) ≡ 0
  refusal = sym g.number ∙ e

  none : first (item_rules_of is) ≡ 0
  unfolding regenerating_refusal_of
  none = go (eqb (first (item_rules_of is)) 0) refl
    where
      go : (b : Bool) → eqb (first (item_rules_of is)) 0 ≡ b → first (item_rules_of is) ≡ 0
      go true q = eqb-true (first (item_rules_of is)) 0 q
      go false q = sym (first_found (item_rules_of is) (writing_rules_of (fields_for is s) (length (main_for is)) (length was)) (eqb-false (first (item_rules_of is)) 0 q)) ∙ refusal

  z : Clear is
  z = clear is none

  unrefused : writing_refusal_of (fields_for is s) (length (main_for is)) (length was) ≡ 0
  unfolding regenerating_refusal_of writing_refusal_of
  unrefused =
      sym (first_zero (item_rules_of is) (writing_rules_of (fields_for is s) (length (main_for is)) (length was)) (none_hold (item_rules_of is) (tt, (tt, (tt, (tt, tt)))) none))
      ∙ refusal

  written : Writes (fields_for is s) (main_for is) was left 0
  unfolding written_of
  written =
      record {
        number = sym unrefused;
        output = g.output ∙ (rw (eq-eqb (regenerating_refusal_of is s (length was)) 0 refusal, eq-eqb (writing_refusal_of (fields_for is s) (length (main_for is)) (length was)) 0 unrefused));
      }

  fic_length : length (fic_in (value_of 0 is)) ≡ 4 * ficl_in (value_of 0 is)
  fic_length = fic_long (value_of 0 is) (called p z)

  fic_bytes : take (4 * ficl_in (value_of 0 is)) (main_for is) ≡ fic_in (value_of 0 is)
  unfolding main_for
  fic_bytes = take_at (fic_in (value_of 0 is)) (data_to is (highest_in is)) (4 * ficl_in (value_of 0 is)) fic_length

  module _ (k : ℕ) (h : k < highest_in is) where
    a : Among is k (highest_in is)
    a = among_all is k (highest_in is) h

    entry_at : get_or (entries_of (fields_for is s)) k no_stream ≡ entry_in (value_of (k + 1) is)
    entry_at =
        ap (λ (ss : List Stream). get_or ss k no_stream) (fields_entries is s ∙ a.entries)
        ∙ ap (λ (j : ℕ). get_or (entries_to is k ++ (entry_in (value_of (k + 1) is) ∷ a.entries_behind)) j no_stream) (let q : k ≡ length (entries_to is k) + 0 = omega (arith, entries_length is k) in q)
        ∙ get_or-append-add (entries_to is k) (entry_in (value_of (k + 1) is) ∷ a.entries_behind) 0 no_stream

    entries_to_lem : take k (entries_of (fields_for is s)) ≡ entries_to is k
    entries_to_lem = ap (take k) (fields_entries is s) ∙ entries_take is k (highest_in is) (omega arith)

    stream_bytes_lem : take (8 * (entry_in (value_of (k + 1) is)).stl) (drop (4 * ficl_in (value_of 0 is) + 8 * stl_total (entries_to is k)) (main_for is)) ≡ drop 3 (value_of (k + 1) is)
    unfolding main_for
    stream_bytes_lem =
        let v = drop 3 (value_of (k + 1) is) in
        let laid : fic_in (value_of 0 is) ++ data_to is (highest_in is) ≡ (fic_in (value_of 0 is) ++ data_to is k) ++ (v ++ a.data_behind) =
        ap (λ (l : List ℕ). fic_in (value_of 0 is) ++ l) a.bytes ∙ sym (append_assoc (fic_in (value_of 0 is)) (data_to is k) (v ++ a.data_behind)) in
        ap (λ (l : List ℕ). take (8 * (entry_in (value_of (k + 1) is)).stl) (drop (4 * ficl_in (value_of 0 is) + 8 * stl_total (entries_to is k)) l)) laid
        ∙ ap (take (8 * (entry_in (value_of (k + 1) is)).stl)) (drop_at (fic_in (value_of 0 is) ++ data_to is k) (v ++ a.data_behind) (4 * ficl_in (value_of 0 is) + 8 * stl_total (entries_to is k)) (length-append (fic_in (value_of 0 is)) (data_to is k) ∙ omega (arith, fic_length, data_words p z k (omega arith))))
        ∙ take_at v a.data_behind (8 * (entry_in (value_of (k + 1) is)).stl) (data_long p z k h)

  -- T-01: where it is not refused, the output is a frame that the single-frame reading accepts, with the items' values as its fields
  pub regenerated_read : (r : Reading) → Reads left r → FromItems is s left r
  unfolding fields_for fields_by
  regenerated_read r reads =
      let b = back_read (fields_for is s) (main_for is) was left written (table_long is s) r reads in
      let y = eq-eqb (writing_refusal_of (fields_for is s) (length (main_for is)) (length was)) 0 unrefused in
      let given : returned_of r.answer ≡ values_for is s = b.values ∙ (rw y (values_for_lem is s)) in
      let sums : sums_of r.answer ≡ sum_of (main_for is) ∷ sum_of (main_for is) ∷ [] = b.sums ∙ (rw y) in
      let parts = b.parts unrefused in
      record {
        number = b.number ∙ unrefused;
        values = apart r.answer ∙ ap₂ (λ (u v : List ℕ). u ++ v) given sums;
        table = b.table ∙ (rw y (ap table_by (fields_entries is s)));
        fic = parts.fic ∙ ap (λ (j : ℕ). take (4 * j) (main_for is)) (ficl_as is s) ∙ fic_bytes;
        stream = λ k h. parts.stream k h ∙ (λ i. take (8 * (entry_at k h i).stl) (drop (4 * ficl_as is s i + 8 * stl_total (entries_to_lem k h i)) (main_for is))) ∙ stream_bytes_lem k h;
      }
