-- Items that carry a frame, regenerated, are the same frame.
-- Assumes nothing.
use mathlib.Core.Bool.{Bool, true, false, not, ◌&&◌}
use mathlib.Core.List.{List, [], ◌∷◌, ◌++◌, append-nil, append_assoc}
use mathlib.Core.Path.{◌≡◌, refl, sym, ap, ap₂, ◌∙◌}
use Prim.Native.Nat.{ℕ, zero, suc, ◌+◌, ◌≤◌, ◌<◌}
use native.Mathlib.Numerals.{add-one}
use native.Mathlib.Omega.{arith}
use borrow.Author.Tests.{eq-eqb, le-ltb}
use lib.Dec.{eqb}
use lib.ListN.{length, get_or, drop}
use Rattle.octets.specs.Choice.{place_in}
use Rattle.frame.specs.declared.Span.{Span}
use Rattle.frame.specs.declared.Stream.{Stream}
use Rattle.frame.specs.Frame.{statuses, fsyncs, err_of, fsync_of, nst_of, fl_of, ficl_by, streams_to, streams_of, stl_total, fl_by, main_of, fic_span, stream_span, spans_to, cut, cuts}
use Rattle.frame.specs.Rules.{refusal_of, Acceptable}
use Rattle.frame.specs.Answers.{digit, timestamp_values, returning_of}
use Rattle.frame.specs.Writing.{entries_of, values_in, writing_rules_of, writing_refusal_of, frame_in, Bytes, Clean}
use Rattle.frame.proofs.Accepting.{acceptable}
use Rattle.frame.proofs.FirstRule.{first_zero}
use Rattle.frame.proofs.Places.{status_placed}
use Rattle.frame.proofs.Tiling.{parts_join}
use Rattle.trips.proofs.Fitting.{clean_level}
use Rattle.trips.proofs.OneFrame.{one_frame}
use Rattle.trips.proofs.ReadWritable.{read_unrefused}
use Rattle.items.specs.TagItems.{Item, items_of, some_bad, values_of, value_of, highest_in, each_once}
use Rattle.tags.specs.TagValues.{level_in, fct_in, ficf_in, stat_in, mid_in, fp_in, mnsc_in, rfu_in, rfa_in, timestamp_in, fic_in, ficl_in, length_for, entry_in}
use Rattle.sorting.specs.TagRules.{is_managed, item_rules_of}
use Rattle.edi.specs.Regenerating.{entries_to, data_to, fields_for, main_for, regenerating_refusal_of, Regenerates}
use Rattle.edi.proofs.RegeneratingRules.{fields_entries}
use Rattle.feeds.specs.FromItems.{values_for}
use Rattle.feeds.specs.Packed.{items_bytes, Free, management_of, stream_item_of, AllWhole}
use Rattle.feeds.proofs.ItemsBack.{items_back}
use Rattle.feeds.proofs.Regenerated.{values_for_lem}
use Rattle.feeds.proofs.ValuesBack.{ficf_back, fct_back, stat_back, mid_back, fp_back, mnsc_back, fic_back, length_back, time_back, rfu_back, rfa_back, entry_back, data_back}

-- the items hold the frame, in any order and with any others between them
pub record Carries (f : List ℕ) (c : Free f) (is : List Item) : Type 0 where
  pub management : values_of 0 is ≡ management_of f c ∷ []
  pub streams : (k : ℕ) → k < nst_of f → values_of (k + 1) is ≡ stream_item_of f k ∷ []
  pub highest : highest_in is ≡ nst_of f
  pub sound : some_bad is ≡ false

cuts_more : (f : List ℕ) (ss : List Span) (s : Span) → cuts f (ss ++ (s ∷ [])) ≡ cuts f ss ++ cut f s
unfolding cuts
cuts_more f [] s = append-nil (cut f s)
cuts_more f (r ∷ ss) s = ap (λ (l : List ℕ). cut f r ++ l) (cuts_more f ss s) ∙ sym (append_assoc (cut f r) (cuts f ss) (cut f s))

module _ (f : List ℕ) (z : refusal_of f ≡ 0) (b : Bytes f) (k : Clean f) (c : Free f) (is : List Item) (y : Carries f c is) (s : Bool) (sync : place_in fsyncs (fsync_of f) ≡ digit s) where
  a : Acceptable f
  a = acceptable f z

  abbrev m : List ℕ
  m = management_of f c

  management : value_of 0 is ≡ m
  unfolding value_of
  management = ap (λ (vs : List (List ℕ)). get_or vs 0 []) y.management

  stream : (n : ℕ) → n < nst_of f → value_of (suc n) is ≡ stream_item_of f n
  unfolding value_of
  stream n h = ap (λ (vs : List (List ℕ)). get_or vs 0 []) (ap (λ (j : ℕ). values_of j is) (sym (add-one n)) ∙ y.streams n h)

  entries : (n : ℕ) → n ≤ nst_of f → entries_to is n ≡ streams_to f n
  unfolding entries_to streams_to
  entries zero h = refl
  entries (suc n) h =
      ap₂ (λ (ss : List Stream) (t : Stream). ss ++ (t ∷ [])) (entries n (omega arith)) (ap entry_in (stream n (omega arith)) ∙ entry_back f a n (omega arith))

  datas : (n : ℕ) → n ≤ nst_of f → cut f (fic_span f) ++ data_to is n ≡ cuts f (spans_to f n)
  unfolding data_to spans_to cuts
  datas zero h = refl
  datas (suc n) h =
      ap (λ (l : List ℕ). cut f (fic_span f) ++ (data_to is n ++ l)) (ap (drop 3) (stream n (omega arith)) ∙ data_back f a n (omega arith))
      ∙ sym (append_assoc (cut f (fic_span f)) (data_to is n) (cut f (stream_span f n)))
      ∙ ap (λ (l : List ℕ). l ++ cut f (stream_span f n)) (datas n (omega arith))
      ∙ sym (cuts_more f (spans_to f n) (stream_span f n))

  once : (n : ℕ) → n ≤ nst_of f → each_once is n ≡ true
  unfolding each_once
  once zero h = refl
  once (suc n) h =
      let v : values_of (suc n) is ≡ stream_item_of f n ∷ [] = ap (λ (j : ℕ). values_of j is) (sym (add-one n)) ∙ y.streams n (omega arith) in
      ap₂ ◌&&◌ (once n (omega arith)) (ap (λ (vs : List (List ℕ)). eqb (length vs) 1) v)

  managed : is_managed is ≡ true
  unfolding is_managed
  managed =
      ap₂ ◌&&◌ (ap (λ (vs : List (List ℕ)). eqb (length vs) 1) y.management)
      (ap (λ (v : List ℕ). eqb (length v) (length_for v)) management ∙ eq-eqb (length m) (length_for m) (length_back f a c))

  main : main_of f ≡ main_for is
  unfolding main_for
  main =
      sym (parts_join f a) ∙ sym (datas (nst_of f) (omega arith))
      ∙ ap₂ (λ (u v : List ℕ). u ++ v) (sym (ap fic_in management ∙ fic_back f a c)) (ap (data_to is) (sym y.highest))

  streams : streams_of f ≡ entries_to is (highest_in is)
  streams = sym (ap (entries_to is) y.highest ∙ entries (nst_of f) (omega arith))

  status : level_in (value_of 0 is) ≡ place_in statuses (err_of f)
  status = ap (place_in statuses) (ap stat_in management ∙ stat_back f a c)

  values_back : returning_of f ≡ values_for is s
  unfolding returning_of values_for
  values_back =
      let level = clean_level f k ∙ sym status in
      let fct = sym (ap fct_in management ∙ fct_back f a c) in
      let ficf = sym (ap ficf_in management ∙ ficf_back f a c) in
      let nst = sym y.highest in
      let fp = sym (ap fp_in management ∙ fp_back f a c) in
      let mid = sym (ap mid_in management ∙ mid_back f a c) in
      let fl : fl_of f ≡ fl_by (highest_in is) (ficl_in (value_of 0 is)) (stl_total (entries_to is (highest_in is))) =
      a.formula ∙ (λ i. fl_by (nst i) (ficl_by (ficf i) (mid i)) (stl_total (streams i))) in
      let mnsc = sym (ap mnsc_in management ∙ mnsc_back f a c) in
      let rfu = sym (ap rfu_in management ∙ rfu_back f a c) in
      let rfa = sym (ap rfa_in management ∙ rfa_back f a c) in
      let time = sym (ap timestamp_in management ∙ time_back f a c) in
      λ i. level i ∷ sync i ∷ fct i ∷ ficf i ∷ nst i ∷ fp i ∷ mid i ∷ fl i ∷ mnsc i ∷ rfu i ∷ rfa i ∷ timestamp_values (time i)

  same_values : returning_of f ≡ values_in (fields_for is s)
  same_values = values_back ∙ sym (values_for_lem is s)

  table : streams_of f ≡ entries_of (fields_for is s)
  table = streams ∙ sym (fields_entries is s)

  frame_back : frame_in (fields_for is s) (main_for is) ≡ f
  frame_back = one_frame f z b k (fields_for is s) (main_for is) same_values table main

  number_back : regenerating_refusal_of is s 6144 ≡ 0
  unfolding regenerating_refusal_of writing_refusal_of
  number_back =
      first_zero (item_rules_of is) (writing_rules_of (fields_for is s) (length (main_for is)) 6144)
      (y.sound, (ap not managed, (ap not (ap (each_once is) y.highest ∙ once (nst_of f) (omega arith)), (le-ltb 3 (level_in (value_of 0 is)) (omega (arith, status, status_placed (err_of f) a.status)), tt))))
      ∙ ap (λ (l : List ℕ). writing_refusal_of (fields_for is s) (length l) 6144) (sym main)
      ∙ read_unrefused f z (fields_for is s) same_values table

  pub carried_back : AllWhole is → (tail : List ℕ) → length tail < 8 → (was left : List ℕ) (r : ℕ) → length was ≡ 6144
      → Regenerates (items_bytes is ++ tail) s was left r → (r ≡ 0) × (left ≡ f)
  carried_back w tail l was left r o g =
      let q = items_back is w tail l in
      let n : regenerating_refusal_of (items_of (items_bytes is ++ tail)) s (length was) ≡ 0 = (λ i. regenerating_refusal_of (q i) s (o i)) ∙ number_back in (
        g.number ∙ n,
        g.output ∙ (rw (eq-eqb (regenerating_refusal_of (items_of (items_bytes is ++ tail)) s (length was)) 0 n))
            ∙ ap (λ (js : List Item). frame_in (fields_for js s) (main_for js)) q
            ∙ frame_back,
      )
