-- The streams of a packet that the items' rules do not refuse: their entries, their data, and where they lie.
-- Assumes nothing.
use mathlib.Core.Bool.{Bool, true, false, ◌||◌}
use mathlib.Core.List.{List, [], ◌∷◌, ◌++◌}
use mathlib.Core.Path.{◌≡◌, refl, sym, ap, subst, ◌∙◌}
use Prim.Native.Nat.{ℕ, zero, suc, ◌+◌, ◌-◌, ◌*◌, ◌≤◌, ◌<◌}
use native.Mathlib.Nat.{zero-add}
use native.Mathlib.Numerals.{add-one}
use native.Mathlib.Omega.{arith}
use borrow.Author.Tests.{lt-ltb, le-leb, ltb-false, eqb-true, eqb-false}
use lib.Dec.{eqb, ltb}
use lib.ListN.{length, get_or, take, drop, length-drop, length-append}
use Rattle.octets.specs.Stores.{put}
use Rattle.octets.proofs.Deciding.{neither, both}
use Rattle.octets.proofs.Storing.{put_none, put_chain, put_length}
use Rattle.frame.specs.Frame.{stl_total}
use Rattle.frame.specs.Rules.{first}
use Rattle.frame.proofs.Streams.{total_append}
use Rattle.items.specs.TagItems.{Item, items_of, is_stream, values_of, value_of, highest_in, each_once}
use Rattle.items.specs.declared.Met.{Met}
use Rattle.items.specs.declared.Met.TheVariants.{Never}
use Rattle.items.specs.PassNotes.{span_of}
use Rattle.items.proofs.ItemList.{Words, value_words}
use Rattle.tags.specs.TagValues.{fic_in, ficl_in, length_for, entry_by, entry_in}
use Rattle.tags.proofs.TagLaws.{fic_long}
use Rattle.sorting.proofs.OnceMet.{highest_small, managed_once, managed_called, Clear, clear}
use Rattle.edi.specs.Regenerating.{entries_to, data_to, main_for}
use Rattle.sorting.specs.TagRules.{item_rules_of}
use Rattle.edi.specs.EdiClauses.{long_to, ValuesAt}

-- ---- one more
pub long_more : (is : List Item) (n : ℕ) → long_to is (n + 1) ≡ (long_to is n || ltb 8194 (length (value_of (n + 1) is)))
unfolding long_to
long_more is n = rw (add-one n)

pub entries_more : (is : List Item) (n : ℕ) → entries_to is (n + 1) ≡ entries_to is n ++ (entry_in (value_of (n + 1) is) ∷ [])
unfolding entries_to
entries_more is n = rw (add-one n)

pub data_more : (is : List Item) (n : ℕ) → data_to is (n + 1) ≡ data_to is n ++ drop 3 (value_of (n + 1) is)
unfolding data_to
data_more is n = rw (add-one n)

pub entries_length : (is : List Item) (n : ℕ) → length (entries_to is n) ≡ n
unfolding entries_to
entries_length is zero = refl
entries_length is (suc n) = rw (length-append, entries_length is n) (add-one n)

data_grows : (is : List Item) (k d : ℕ) → length (data_to is k) ≤ length (data_to is (d + k))
unfolding data_to
data_grows is k zero = rw (zero-add k) (omega arith)
data_grows is k (suc d) =
    let z : suc d + k ≡ suc (d + k) = omega arith in
    rw (z, length-append) (omega (arith, data_grows is k d))

data_below : (is : List Item) (k n : ℕ) → k ≤ n → length (data_to is k) ≤ length (data_to is n)
data_below is k n h =
    let z : n - k + k ≡ n = omega arith in
    omega (arith, data_grows is k (n - k), ap (λ (m : ℕ). length (data_to is m)) z)

data_next : (is : List Item) (k : ℕ) → length (data_to is (k + 1)) ≡ length (data_to is k) + length (drop 3 (value_of (k + 1) is))
data_next is k = ap length (data_more is k) ∙ length-append (data_to is k) (drop 3 (value_of (k + 1) is))

-- ---- each stream once
once_each : (is : List Item) (n : ℕ) → each_once is n ≡ true → (k : ℕ) → k < n → length (values_of (k + 1) is) ≡ 1
unfolding each_once
once_each is zero e k l = absurd (omega arith)
once_each is (suc n) e k l = go (eqb k n) refl (both (each_once is n) (eqb (length (values_of (suc n) is)) 1) e) (once_each is n)
  where
    go : (b : Bool) → eqb k n ≡ b → (each_once is n ≡ true) × (eqb (length (values_of (suc n) is)) 1 ≡ true)
        → (each_once is n ≡ true → (j : ℕ) → j < n → length (values_of (j + 1) is) ≡ 1) → length (values_of (k + 1) is) ≡ 1
    go true z u before = rw (eqb-true k n z, add-one n) (eqb-true _ 1 u.1)
    go false z u before = before u.0 k (let w = eqb-false k n z in omega (arith, w))

module _ (p : List ℕ) (z : Clear (items_of p)) where
  abbrev is : List Item
  is = items_of p

  one_value : (k : ℕ) → k < highest_in is → length (values_of (k + 1) is) ≡ 1
  one_value k h = once_each is (highest_in is) z.once k h

  -- 3 bytes, and words of 8
  pub stream_words : (k : ℕ) → k < highest_in is → Words (value_of (k + 1) is)
  stream_words k h =
      let c = highest_small is in
      let s : is_stream (k + 1) ≡ true = rw (lt-ltb 0 (k + 1) (omega arith), le-leb (k + 1) 64 (omega arith)) in
      value_words p (k + 1) s z.sound (omega (arith, one_value k h))

  pub data_long : (k : ℕ) → k < highest_in is → length (drop 3 (value_of (k + 1) is)) ≡ 8 * (entry_in (value_of (k + 1) is)).stl
  unfolding entry_in entry_by
  data_long k h = length-drop 3 (value_of (k + 1) is) ∙ omega (arith, stream_words k h)

  words_more : (k : ℕ) → k < highest_in is → length (data_to is k) ≡ 8 * stl_total (entries_to is k) → length (data_to is (k + 1)) ≡ 8 * stl_total (entries_to is (k + 1))
  unfolding stl_total
  words_more k h q =
      let t = total_append (entries_to is k) (entry_in (value_of (k + 1) is) ∷ []) in
      let g = ap stl_total (entries_more is k) in
      omega (arith, q, data_next is k, data_long k h, t, g)

  pub data_words : (k : ℕ) → k ≤ highest_in is → length (data_to is k) ≡ 8 * stl_total (entries_to is k)
  unfolding data_to entries_to stl_total
  data_words zero h = refl
  data_words (suc k) h =
      subst (λ (m : ℕ). length (data_to is m) ≡ 8 * stl_total (entries_to is m)) (add-one k) (words_more k (omega arith) (data_words k (omega arith)))

  pub called : length (value_of 0 is) ≡ length_for (value_of 0 is)
  called = managed_called is z.managed

  pub main_long : length (main_for is) ≡ 4 * ficl_in (value_of 0 is) + 8 * stl_total (entries_to is (highest_in is))
  unfolding main_for
  main_long =
      length-append (fic_in (value_of 0 is)) (data_to is (highest_in is))
      ∙ omega (arith, fic_long (value_of 0 is) called, data_words (highest_in is) (omega arith))

-- ---- a packet that the items' rules do not refuse
module _ (p : List ℕ) (none : first (item_rules_of (items_of p)) ≡ 0) where
  pub kept_clear : Clear (items_of p)
  kept_clear = clear (items_of p) none

  pub stream_head : (k : ℕ) → k < highest_in (items_of p) → 3 ≤ length (value_of (k + 1) (items_of p))
  stream_head k h = omega (arith, stream_words p kept_clear k h)

  module _ (met : List Met) (v : ValuesAt p met) where
    pub management_at : take (span_of (get_or met 0 Never)).len (drop (span_of (get_or met 0 Never)).start p) ≡ value_of 0 (items_of p)
    management_at = v 0 (omega arith) (managed_once (items_of p) kept_clear.managed)

    pub stream_at : (k : ℕ) → k < highest_in (items_of p) → take (span_of (get_or met (k + 1) Never)).len (drop (span_of (get_or met (k + 1) Never)).start p) ≡ value_of (k + 1) (items_of p)
    stream_at k h = let c = highest_small (items_of p) in v (k + 1) (omega arith) (one_value p kept_clear k h)

pub short_at : (is : List Item) (n : ℕ) → long_to is n ≡ false → (k : ℕ) → k < n → length (value_of (k + 1) is) ≤ 8194
unfolding long_to
short_at is zero e k l = absurd (omega arith)
short_at is (suc n) e k l = go (eqb k n) refl (neither (long_to is n) (ltb 8194 (length (value_of (suc n) is))) e) (short_at is n)
  where
    go : (b : Bool) → eqb k n ≡ b → (long_to is n ≡ false) × (ltb 8194 (length (value_of (suc n) is)) ≡ false)
        → (long_to is n ≡ false → (j : ℕ) → j < n → length (value_of (j + 1) is) ≤ 8194) → length (value_of (k + 1) is) ≤ 8194
    go true z u before = rw (eqb-true k n z, add-one n) (ltb-false 8194 _ u.1)
    go false z u before = before u.0 k (let w = eqb-false k n z in omega (arith, w))

-- ---- the main stream so far, with the data of the streams 1 to i behind `at`
pub record Filling (is : List Item) (l : List ℕ) (at : ℕ) (main : List ℕ) (place i : ℕ) : Type 0 where
  pub same : length main ≡ length l
  pub next : place ≡ at + length (data_to is i)
  pub holds : main ≡ put l at (data_to is i)

module _ (is : List Item) (l : List ℕ) (at : ℕ) where
  pub filling_none : at ≤ length l → Filling is l at l at 0
  unfolding data_to
  filling_none h = record { same = refl; next = omega arith; holds = put_none l at h }

  module _ (n : ℕ) (room : at + length (data_to is n) ≤ length l) (main : List ℕ) (place i : ℕ) (f : Filling is l at main place i) (h : i < n) (v : List ℕ) (e : v ≡ drop 3 (value_of (i + 1) is)) where
    below : length (data_to is i) + length v ≤ length (data_to is n)
    below = omega (arith, ap length e, data_next is i, data_below is (i + 1) n (omega arith))

    pub filling_place : place + length v ≤ length l
    filling_place = omega (arith, f.next, room, below)

    pub filling_more : (after : List ℕ) → after ≡ put main place v → Filling is l at after (place + length v) (i + 1)
    filling_more after q =
        let w : after ≡ put l at (data_to is i ++ v) =
        put_chain l main after at place (data_to is i) v f.holds q f.next (omega (arith, room, below)) in
        let g : after ≡ put l at (data_to is (i + 1)) =
        w ∙ ap (λ (u : List ℕ). put l at u) (ap (λ (u : List ℕ). data_to is i ++ u) e ∙ sym (data_more is i)) in
        record {
          same = ap length g ∙ put_length l at (data_to is (i + 1)) (omega (arith, room, data_below is (i + 1) n (omega arith)));
          next = omega (arith, f.next, data_next is i, ap length e);
          holds = g;
        }
