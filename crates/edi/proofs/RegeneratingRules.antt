-- The fields and the main stream put together, and the packet's whole answer by where it is found.
-- Assumes nothing.
use mathlib.Core.Bool.{Bool, true, false, not, ◌||◌}
use mathlib.Core.List.{List, [], ◌∷◌, ◌++◌}
use mathlib.Core.Path.{◌≡◌, refl, sym, ap, subst, ◌∙◌}
use Prim.Native.Nat.{ℕ, zero, suc, ◌+◌, ◌-◌, ◌*◌, ◌/◌, ◌≤◌, ◌<◌}
use native.Mathlib.Numerals.{add-one}
use native.Mathlib.Omega.{arith}
use borrow.Author.Tests.{ne_eqb, lt-ltb, le-leb, ltb-true}
use lib.Dec.{eqb, ltb}
use lib.ListN.{length, take, drop}
use lib.Seq.{take_at}
use Rattle.octets.specs.Choice.{pick}
use Rattle.octets.specs.Stores.{put}
use Rattle.octets.proofs.Deciding.{clash}
use Rattle.octets.proofs.Storing.{put_room, put_chain, put_length}
use Rattle.frame.proofs.Entries.{wider_append}
use Rattle.frame.specs.declared.Fields.{Fields}
use Rattle.frame.specs.declared.Stream.{Stream}
use Rattle.frame.specs.Frame.{ficl_by, stl_total}
use Rattle.frame.specs.Rules.{Rule, ◌when◌, first, some_stl_above}
use Rattle.frame.specs.Answers.{table_by}
use Rattle.frame.specs.Writing.{entries_of, fl_in, some_stream_wider, wider, writing_rules_of, writing_refusal_of, frame_in, written_of, Writes}
use Rattle.frame.proofs.FirstRule.{none_hold, first_zero, first_found}
use Rattle.frame.proofs.Headers.{digit_of}
use Rattle.items.specs.TagItems.{Item, items_of, value_of, highest_in}
use Rattle.tags.specs.TagValues.{ficf_in, mid_in, fic_in, ficl_in, fic_place, entry_by, entry_in, fields_by}
use Rattle.tags.proofs.TagLaws.{ficf_bit, fic_long}
use Rattle.sorting.specs.TagRules.{item_rules_of}
use Rattle.sorting.proofs.OnceMet.{Clear}
use Rattle.edi.specs.Regenerating.{entries_to, data_to, fields_for, main_for, regenerating_refusal_of, Regenerates}
use Rattle.edi.specs.EdiClauses.{long_to, over_rules}
use Rattle.edi.proofs.StreamsKept.{long_more, entries_more, entries_length, data_words, called, main_long, kept_clear}

-- ---- the fields
pub fields_as : (is : List Item) (s : Bool) (m : List ℕ) (n : ℕ) (t : List Stream) → m ≡ value_of 0 is → n ≡ highest_in is → t ≡ table_by (entries_to is n) → fields_by m s n t ≡ fields_for is s
unfolding fields_for
fields_as is s m n t em en et =
    λ i. fields_by (em i) s (en i) ((et ∙ ap (λ (k : ℕ). table_by (entries_to is k)) en) i)

table_entries : (is : List Item) (n : ℕ) → take n (table_by (entries_to is n)) ≡ entries_to is n
unfolding table_by
table_entries is n = take_at (entries_to is n) _ n (entries_length is n)

pub fields_entries : (is : List Item) (s : Bool) → entries_of (fields_for is s) ≡ entries_to is (highest_in is)
unfolding fields_for fields_by
fields_entries is s = table_entries is (highest_in is)

pub ficl_as : (is : List Item) (s : Bool) → Rattle.frame.specs.Writing.ficl_in (fields_for is s) ≡ ficl_in (value_of 0 is)
unfolding fields_for fields_by
ficl_as is s = ap (λ (k : ℕ). ficl_by k (mid_in (value_of 0 is))) (digit_of (ficf_in (value_of 0 is)) (ficf_bit (value_of 0 is)))

-- ---- a main stream that is too long is refused by a rule before 11, so its bytes do not matter
abbrev earlier : Fields → ℕ → List Rule
earlier x out =
    (1 when not (eqb out 6144))
    ∷ (12 when wider x)
    ∷ (5 when ltb 64 x.count)
    ∷ (7 when ltb 249 x.fct)
    ∷ (8 when some_stl_above 684 (entries_of x))
    ∷ (10 when ltb 1532 (fl_in x))
    ∷ []

module _ (x : Fields) (h : 1532 < fl_in x) (out : ℕ) where
  found : first (earlier x out) ≡ 0 → ⊥
  found z =
      let k = none_hold (earlier x out) (tt, (tt, (tt, (tt, (tt, (tt, tt)))))) z in
      clash (sym (lt-ltb 1532 (fl_in x) h) ∙ k.1.1.1.1.1.0)

  earlier_is : (main : ℕ) → writing_refusal_of x main out ≡ first (earlier x out)
  unfolding writing_refusal_of
  earlier_is main = first_found (earlier x out) ((11 when not (eqb main (4 * Rattle.frame.specs.Writing.ficl_in x + 8 * stl_total (entries_of x)))) ∷ []) found

too_long : (x : Fields) → 1532 < fl_in x → (m k was left : List ℕ) (r : ℕ) → Writes x m was left r → Writes x k was left r
unfolding written_of
too_long x h m k was left r w =
    let o = length was in
    let z : (j : ℕ) → eqb (writing_refusal_of x j o) 0 ≡ false = λ j. ne_eqb _ 0 (λ e. found x h o (sym (earlier_is x h o j) ∙ e)) in
    record {
      number = w.number ∙ earlier_is x h o (length m) ∙ sym (earlier_is x h o (length k));
      output = w.output ∙ ap (λ (b : Bool). pick b (frame_in x m) was) (z (length m)) ∙ sym (ap (λ (b : Bool). pick b (frame_in x k) was) (z (length k)));
    }

module _ (p : List ℕ) (none : first (item_rules_of (items_of p)) ≡ 0) (n : ℕ) (high : n ≡ highest_in (items_of p)) where
  abbrev is : List Item
  is = items_of p

  z : Clear (items_of p)
  z = kept_clear p none

  -- the length, by the FIC's and the table's
  pub length_as : (m : List ℕ) → m ≡ value_of 0 is → (t : List Stream) → t ≡ table_by (entries_to is n) → (k : ℕ) → k ≡ 4 * ficl_in m + 8 * stl_total (take n t) → k ≡ length (main_for is)
  length_as m em t et k ek =
      let g : stl_total (take n t) ≡ stl_total (entries_to is (highest_in is)) =
      ap (λ (u : List Stream). stl_total (take n u)) et ∙ ap stl_total (table_entries is n) ∙ ap (λ (j : ℕ). stl_total (entries_to is j)) high in
      omega (arith, ek, ap ficl_in em, g, main_long p z)

  fl_as : (s : Bool) → 6124 < length (main_for is) → 1532 < fl_in (fields_for is s)
  unfolding fl_in
  fl_as s h =
      let e = ap stl_total (fields_entries is s) in
      omega (arith, h, e, ficl_as is s, main_long p z)

  pub refused_as : (s : Bool) (x : Fields) → x ≡ fields_for is s → 6124 < length (main_for is) → (was left : List ℕ) (r : ℕ) → Writes x [] was left r → Writes (fields_for is s) (main_for is) was left r
  refused_as s x e h was left r w = too_long (fields_for is s) (fl_as s h) [] (main_for is) was left r (subst (λ (u : Fields). Writes u [] was left r) e w)

  -- the main stream put together
  pub fic_as : (m f : List ℕ) (start len : ℕ) → m ≡ value_of 0 is → start ≡ fic_place m → len ≡ 4 * ficl_in m → f ≡ take len (drop start m) → f ≡ fic_in (value_of 0 is)
  unfolding fic_in
  fic_as m f start len em es el ef = ef ∙ (λ i. take (el i) (drop (es i) m)) ∙ ap fic_in em

  pub ficl_at : (m : List ℕ) (len : ℕ) → m ≡ value_of 0 is → len ≡ 4 * ficl_in m → len ≡ 4 * ficl_in (value_of 0 is)
  ficl_at m len em el = el ∙ ap (λ (u : List ℕ). 4 * ficl_in u) em

  fic_length : length (fic_in (value_of 0 is)) ≡ 4 * ficl_in (value_of 0 is)
  fic_length = fic_long (value_of 0 is) (called p z)

  data_length : length (data_to is n) ≡ 8 * stl_total (entries_to is (highest_in is))
  data_length = ap (λ (k : ℕ). length (data_to is k)) high ∙ data_words p z (highest_in is) (omega arith)

  module _ (l f : List ℕ) (k : ℕ) (e : f ≡ fic_in (value_of 0 is)) (q : k ≡ 4 * ficl_in (value_of 0 is)) (h : length (main_for is) ≤ length l) where
    fic_fits : 0 + length f ≤ length l
    fic_fits = omega (arith, ap length e, fic_length, main_long p z, h)

    pub data_room : (a : List ℕ) → a ≡ put l 0 f → k + length (data_to is n) ≤ length a
    data_room a g = omega (arith, ap length g, put_length l 0 f fic_fits, q, data_length, main_long p z, h)

    pub main_put : (a b : List ℕ) → a ≡ put l 0 f → b ≡ put a k (data_to is n) → b ≡ put l 0 (main_for is)
    unfolding main_for
    main_put a b pa pb =
        put_chain l a b 0 k f (data_to is n) pa pb (omega (arith, q, ap length e, fic_length)) (omega (arith, ap length e, fic_length, data_length, main_long p z, h))
        ∙ (λ i. put l 0 (e i ++ data_to is (high i)))

pub main_taken : (l a m : List ℕ) (len : ℕ) → len ≡ length m → len ≤ length l → a ≡ put l 0 m → take len a ≡ m
main_taken l a m len e h q = ap (take len) (q ∙ put_room l 0 m (omega (arith, e, h))) ∙ take_at m (drop (0 + length m) l) len (sym e)

-- ---- the whole answer
module _ (p : List ℕ) (s : Bool) (was : List ℕ) where
  abbrev x : Fields
  x = fields_for (items_of p) s

  abbrev m : List ℕ
  m = main_for (items_of p)

  refused_with : (r : ℕ) → regenerating_refusal_of (items_of p) s (length was) ≡ r → (r ≡ 0 → ⊥) → Regenerates p s was was r
  refused_with r e h = record { number = sym e; output = rw (e, ne_eqb r 0 h) }

  pub regenerates_refused : (r : ℕ) → r ≡ first (item_rules_of (items_of p)) → (r ≡ 0 → ⊥) → Regenerates p s was was r
  unfolding regenerating_refusal_of
  regenerates_refused r e h =
      refused_with r (first_found (item_rules_of (items_of p)) (writing_rules_of x (length m) (length was)) (λ q. h (e ∙ q)) ∙ sym e) h

  module _ (z : first (item_rules_of (items_of p)) ≡ 0) where
    number_rest : regenerating_refusal_of (items_of p) s (length was) ≡ writing_refusal_of x (length m) (length was)
    unfolding regenerating_refusal_of writing_refusal_of
    number_rest =
        first_zero (item_rules_of (items_of p)) (writing_rules_of x (length m) (length was)) (none_hold (item_rules_of (items_of p)) (tt, (tt, (tt, (tt, tt)))) z)

    pub regenerates_written : (left : List ℕ) (r : ℕ) → Writes x m was left r → Regenerates p s was left r
    unfolding written_of
    regenerates_written left r w = record { number = w.number ∙ sym number_rest; output = w.output ∙ (rw number_rest) }

    pub regenerates_over : wider x ≡ true → (r : ℕ) → r ≡ first (over_rules (length was)) → Regenerates p s was was r
    unfolding writing_refusal_of
    regenerates_over w r e = go (eqb (length was) 6144) refl
      where
        go : (b : Bool) → eqb (length was) 6144 ≡ b → Regenerates p s was was r
        go true q =
            let n : first (over_rules (length was)) ≡ 12 = rw q in
            let v : writing_refusal_of x (length m) (length was) ≡ 12 = rw (q, w) in
            refused_with r (number_rest ∙ v ∙ sym (e ∙ n)) (λ t. let u = sym (e ∙ n) ∙ t in omega (arith, u))
        go false q =
            let n : first (over_rules (length was)) ≡ 1 = rw q in
            let v : writing_refusal_of x (length m) (length was) ≡ 1 = rw q in
            refused_with r (number_rest ∙ v ∙ sym (e ∙ n)) (λ t. let u = sym (e ∙ n) ∙ t in omega (arith, u))

-- ---- a stream of 1,024 words or more is wider than its field
or-true : (a : Bool) → (a || true) ≡ true
or-true true = refl
or-true false = refl

stl_wider : (v : List ℕ) → 8194 < length v → some_stream_wider (entry_in v ∷ []) ≡ true
unfolding some_stream_wider entry_in entry_by
stl_wider v h =
    let e = le-leb 1024 ((length v - 3) / 8) (omega arith) in
    rw (e, or-true, or-true, or-true)

module _ (p : List ℕ) (n : ℕ) (high : n ≡ highest_in (items_of p)) where
  wider_more : (k : ℕ) → k < n → (long_to (items_of p) k ≡ true → some_stream_wider (entries_to (items_of p) k) ≡ true) → long_to (items_of p) (k + 1) ≡ true → some_stream_wider (entries_to (items_of p) (k + 1)) ≡ true
  wider_more k h before e = go (long_to (items_of p) k) (ltb 8194 (length (value_of (k + 1) (items_of p)))) refl refl (sym (long_more (items_of p) k) ∙ e)
    where
      apart : some_stream_wider (entries_to (items_of p) (k + 1)) ≡ (some_stream_wider (entries_to (items_of p) k) || some_stream_wider (entry_in (value_of (k + 1) (items_of p)) ∷ []))
      apart = ap some_stream_wider (entries_more (items_of p) k) ∙ wider_append (entries_to (items_of p) k) (entry_in (value_of (k + 1) (items_of p)) ∷ [])

      go : (a b : Bool) → long_to (items_of p) k ≡ a → ltb 8194 (length (value_of (k + 1) (items_of p))) ≡ b → (a || b) ≡ true → some_stream_wider (entries_to (items_of p) (k + 1)) ≡ true
      go true b ea eb e = apart ∙ ap (λ (w : Bool). w || some_stream_wider (entry_in (value_of (k + 1) (items_of p)) ∷ [])) (before ea)
      go false true ea eb e =
          let l : 8194 < length (value_of (k + 1) (items_of p)) = ltb-true 8194 _ eb in
          apart
          ∙ ap (λ (w : Bool). some_stream_wider (entries_to (items_of p) k) || w) (stl_wider (value_of (k + 1) (items_of p)) l)
          ∙ or-true (some_stream_wider (entries_to (items_of p) k))
      go false false ea eb e = absurd (clash (sym e))

  long_wider : (k : ℕ) → k ≤ n → long_to (items_of p) k ≡ true → some_stream_wider (entries_to (items_of p) k) ≡ true
  unfolding long_to
  long_wider zero h e = absurd (clash (sym e))
  long_wider (suc k) h e =
      subst (λ (m : ℕ). long_to (items_of p) m ≡ true → some_stream_wider (entries_to (items_of p) m) ≡ true) (add-one k)
      (wider_more k (omega arith) (long_wider k (omega arith))) e

  pub long_fields : (s : Bool) → long_to (items_of p) n ≡ true → wider (fields_for (items_of p) s) ≡ true
  unfolding wider
  long_fields s e =
      let w : some_stream_wider (entries_of (fields_for (items_of p) s)) ≡ true =
      ap some_stream_wider (fields_entries (items_of p) s ∙ ap (entries_to (items_of p)) (sym high)) ∙ long_wider n (omega arith) e in
      rw (w, or-true, or-true)
