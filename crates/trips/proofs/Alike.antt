-- Acceptance depends on the length, the first word and the header alone, and READING ON THE LENGTH AND THE CARRIED BYTES ALONE: what stands in the padding is not read.
-- Assumes nothing.
use mathlib.Core.Bool.{Bool, true, false, not}
use mathlib.Core.List.{List, [], ◌∷◌, ◌++◌}
use mathlib.Core.Path.{◌≡◌, refl, sym, ap, ap₂, ◌∙◌}
use Prim.Native.Nat.{ℕ, zero, suc, ◌+◌, ◌-◌, ◌*◌, ◌≤◌, ◌<◌}
use native.Mathlib.Nat.{le_refl, le_of_lt}
use native.Mathlib.Omega.{arith}
use borrow.Author.Tests.{ltb-true, ltb-false}
use lib.Dec.{eqb, ltb}
use lib.ListN.{length, get_or, take, drop, length-take, length-drop}
use lib.Seq.{get_or-take, get_or-drop, ext_get_or}
use Rattle.sum.specs.Sum.{sum_of}
use Rattle.octets.specs.Choice.{pick, place_in}
use Rattle.octets.specs.Words.{split, join, bytes4, word_at}
use Rattle.frame.specs.declared.Reading.{Reading}
use Rattle.frame.specs.declared.Stream.{Stream}
use Rattle.frame.specs.Frame.{statuses, err_of, fsyncs, fsync_of, sync_widths, fc_widths, fct_of, ficf_of, nst_of, fp_of, mid_of, fl_of, ficl_by, ficl_of, fl_by, stream_by, stream_of, streams_to, streams_of, stl_total, eoh_widths, mnsc_of, header_bytes_of, header_sum_of, main_start, main_end, main_of, stream_span, cut, eof_widths, main_sum_of, rfu_of, tist_widths, rfa_of, time_of, carried_by, level_by, level_of}
use Rattle.frame.specs.Rules.{◌when◌, first, some_stl_above, refusal_of, stream_refusal_of, granted, main_part, fic_part, stream_part, Acceptable}
use Rattle.frame.specs.Answers.{timestamp_for, timestamp_values, returning_of, fields_of, table_by, Reads}
use Rattle.frame.proofs.Accepting.{acceptable, request_within, request_beyond}
use Rattle.frame.proofs.Tiling.{main_after, fic_of_main, stream_of_main}

-- ---- the length, the first word and the header agree
module _ (f g : List ℕ) (whole : length g ≡ length f) (kept : (k : ℕ) → k < main_start (nst_of f) → get_or g k 0 ≡ get_or f k 0) where
  word_kept : (p : ℕ) → p + 4 ≤ main_start (nst_of f) → word_at g p ≡ word_at f p
  word_kept p h =
      let b0 = kept p (omega arith) in
      let b1 = kept (p + 1) (omega arith) in
      let b2 = kept (p + 2) (omega arith) in
      let b3 = kept (p + 3) (omega arith) in
      λ i. join bytes4 (b0 i ∷ b1 i ∷ b2 i ∷ b3 i ∷ [])

  -- SYNC and FC
  pub err_kept : err_of g ≡ err_of f
  unfolding err_of
  err_kept = ap (λ (w : ℕ). get_or (split sync_widths w) 0 0) (word_kept 0 (omega arith))

  fsync_kept : fsync_of g ≡ fsync_of f
  unfolding fsync_of
  fsync_kept = ap (λ (w : ℕ). get_or (split sync_widths w) 1 0) (word_kept 0 (omega arith))

  fc_kept : word_at g 4 ≡ word_at f 4
  fc_kept = word_kept 4 (omega arith)

  fct_kept : fct_of g ≡ fct_of f
  unfolding fct_of
  fct_kept = ap (λ (w : ℕ). get_or (split fc_widths w) 0 0) fc_kept

  ficf_kept : ficf_of g ≡ ficf_of f
  unfolding ficf_of
  ficf_kept = ap (λ (w : ℕ). get_or (split fc_widths w) 1 0) fc_kept

  pub nst_kept : nst_of g ≡ nst_of f
  unfolding nst_of
  nst_kept = ap (λ (w : ℕ). get_or (split fc_widths w) 2 0) fc_kept

  fp_kept : fp_of g ≡ fp_of f
  unfolding fp_of
  fp_kept = ap (λ (w : ℕ). get_or (split fc_widths w) 3 0) fc_kept

  mid_kept : mid_of g ≡ mid_of f
  unfolding mid_of
  mid_kept = ap (λ (w : ℕ). get_or (split fc_widths w) 4 0) fc_kept

  fl_kept : fl_of g ≡ fl_of f
  unfolding fl_of
  fl_kept = ap (λ (w : ℕ). get_or (split fc_widths w) 5 0) fc_kept

  pub ficl_kept : ficl_of g ≡ ficl_of f
  ficl_kept = ap₂ ficl_by ficf_kept mid_kept

  -- STC and EOH
  stream_kept : (i : ℕ) → i < nst_of f → stream_of g i ≡ stream_of f i
  unfolding stream_of
  stream_kept i h = ap stream_by (word_kept (4 + (i + 1) * 4) (omega arith))

  entries_kept : (n : ℕ) → n ≤ nst_of f → streams_to g n ≡ streams_to f n
  unfolding streams_to
  entries_kept zero h = refl
  entries_kept (suc n) h = ap₂ (λ (ss : List Stream) (s : Stream). ss ++ (s ∷ [])) (entries_kept n (omega arith)) (stream_kept n (omega arith))

  pub streams_kept : streams_of g ≡ streams_of f
  streams_kept = ap (streams_to g) nst_kept ∙ entries_kept (nst_of f) (le_refl (nst_of f))

  eoh_kept : word_at g (4 + (nst_of g + 1) * 4) ≡ word_at f (4 + (nst_of f + 1) * 4)
  eoh_kept = ap (λ (n : ℕ). word_at g (4 + (n + 1) * 4)) nst_kept ∙ word_kept (4 + (nst_of f + 1) * 4) (omega arith)

  mnsc_kept : mnsc_of g ≡ mnsc_of f
  unfolding mnsc_of
  mnsc_kept = ap (λ (w : ℕ). get_or (split eoh_widths w) 0 0) eoh_kept

  sum_kept : header_sum_of g ≡ header_sum_of f
  unfolding header_sum_of
  sum_kept = ap (λ (w : ℕ). get_or (split eoh_widths w) 1 0) eoh_kept

-- as many bytes from a place on, where they agree
part_kept : (f g : List ℕ) → length g ≡ length f → (a n : ℕ) → ((k : ℕ) → k < n → get_or g (a + k) 0 ≡ get_or f (a + k) 0) → take n (drop a g) ≡ take n (drop a f)
part_kept f g whole a n kept =
    let within : (i : ℕ) → i < length (take n (drop a g)) → i < n = λ i h. omega (arith, simp length-take at h) in
    let at : (l : List ℕ) (i : ℕ) → i < n → get_or (take n (drop a l)) i 0 ≡ get_or l (a + i) 0 = λ l i h. get_or-take n (drop a l) i 0 h ∙ get_or-drop a l i 0 in
    ext_get_or 0 (take n (drop a g)) (take n (drop a f)) (simp (length-take, length-drop) (omega (arith, whole)))
    (λ i h. let l = within i h in at g i l ∙ kept i l ∙ sym (at f i l))

module _ (f g : List ℕ) (whole : length g ≡ length f) (kept : (k : ℕ) → k < main_start (nst_of f) → get_or g k 0 ≡ get_or f k 0) where
  header_kept : header_bytes_of g ≡ header_bytes_of f
  header_kept =
      ap (λ (n : ℕ). take ((4 + ((n + 1) * 4 + 2)) - 4) (drop 4 g)) (nst_kept f g whole kept)
      ∙ part_kept f g whole 4 ((4 + ((nst_of f + 1) * 4 + 2)) - 4) (λ k h. kept (4 + k) (omega arith))

  -- each of reading's rules holds of the one exactly where it holds of the other
  pub same_refusal : refusal_of g ≡ refusal_of f
  unfolding refusal_of
  same_refusal =
      λ i.
      first
      ((1 when not (eqb (whole i) 6144))
      ∷ (2 when ltb 1 (place_in fsyncs (fsync_kept f g whole kept i)))
      ∷ (3 when ltb 3 (place_in statuses (err_kept f g whole kept i)))
      ∷ (4 when eqb (fc_kept f g whole kept i) 0xFFFFFFFF)
      ∷ (5 when ltb 64 (nst_kept f g whole kept i))
      ∷ (6 when not (eqb (sum_of (header_kept i)) (sum_kept f g whole kept i)))
      ∷ (7 when ltb 249 (fct_kept f g whole kept i))
      ∷ (8 when some_stl_above 684 (streams_kept f g whole kept i))
      ∷ (9 when not (eqb (fl_kept f g whole kept i) (fl_by (nst_kept f g whole kept i) (ficl_kept f g whole kept i) (stl_total (streams_kept f g whole kept i)))))
      ∷ (10 when ltb 1532 (fl_kept f g whole kept i))
      ∷ [])

-- ---- the length and the carried bytes of a frame that is accepted agree
module _ (f g : List ℕ) (z : refusal_of f ≡ 0) (whole : length g ≡ length f) (kept : (k : ℕ) → k < carried_by (fl_of f) → get_or g k 0 ≡ get_or f k 0) where
  a : Acceptable f
  a = acceptable f z

  head : (k : ℕ) → k < main_start (nst_of f) → get_or g k 0 ≡ get_or f k 0
  head k h = kept k (omega (arith, main_after f a))

  pub accepted_alike : refusal_of g ≡ 0
  accepted_alike = same_refusal f g whole head ∙ z

  nst : nst_of g ≡ nst_of f
  nst = nst_kept f g whole head

  fl : fl_of g ≡ fl_of f
  fl = fl_kept f g whole head

  -- a word behind the main stream
  word : (p : ℕ → ℕ) → p (fl_of f) + 4 ≤ carried_by (fl_of f) → word_at g (p (fl_of g)) ≡ word_at f (p (fl_of f))
  word p h =
      let q = p (fl_of f) in
      let b0 = kept q (omega arith) in
      let b1 = kept (q + 1) (omega arith) in
      let b2 = kept (q + 2) (omega arith) in
      let b3 = kept (q + 3) (omega arith) in
      ap (λ (n : ℕ). word_at g (p n)) fl ∙ (λ i. join bytes4 (b0 i ∷ b1 i ∷ b2 i ∷ b3 i ∷ []))

  eof : word_at g (main_end (fl_of g)) ≡ word_at f (main_end (fl_of f))
  eof = word main_end (omega arith)

  tist : word_at g (4 + (fl_of g + 2) * 4) ≡ word_at f (4 + (fl_of f + 2) * 4)
  tist = word (λ n. 4 + (n + 2) * 4) (omega arith)

  main_sum : main_sum_of g ≡ main_sum_of f
  unfolding main_sum_of
  main_sum = ap (λ (w : ℕ). get_or (split eof_widths w) 0 0) eof

  rfu : rfu_of g ≡ rfu_of f
  unfolding rfu_of
  rfu = ap (λ (w : ℕ). get_or (split eof_widths w) 1 0) eof

  rfa : rfa_of g ≡ rfa_of f
  unfolding rfa_of
  rfa = ap (λ (w : ℕ). get_or (split tist_widths w) 0 0) tist

  time : time_of g ≡ time_of f
  unfolding time_of
  time = ap (λ (w : ℕ). get_or (split tist_widths w) 1 0) tist

  main : main_of g ≡ main_of f
  main =
      ap₂ (λ (n m : ℕ). take (main_end m - main_start n) (drop (main_start n) g)) nst fl
      ∙ part_kept f g whole (main_start (nst_of f)) (main_end (fl_of f) - main_start (nst_of f)) (λ k h. kept (main_start (nst_of f) + k) (omega arith))

  -- every field, with both sums
  pub fields_alike : fields_of g ≡ fields_of f
  unfolding fields_of returning_of level_of
  fields_alike =
      λ i.
      (level_by (place_in statuses (err_kept f g whole head i)) (eqb (sum_of (main i)) (main_sum i))
      ∷ place_in fsyncs (fsync_kept f g whole head i)
      ∷ fct_kept f g whole head i
      ∷ ficf_kept f g whole head i
      ∷ nst i
      ∷ fp_kept f g whole head i
      ∷ mid_kept f g whole head i
      ∷ fl i
      ∷ mnsc_kept f g whole head i
      ∷ rfu i
      ∷ rfa i
      ∷ timestamp_values (timestamp_for (time i)))
      ++ (main_sum i ∷ sum_of (main i) ∷ [])

  -- the reading of the one is the reading of the other
  pub read_alike : (r : Reading) → Reads g r → Reads f r
  read_alike r t =
      let n = same_refusal f g whole head in
      record {
        number = t.number ∙ n;
        values = t.values ∙ (λ i. pick (eqb (n i) 0) (fields_alike i) []);
        table = t.table ∙ (λ i. pick (eqb (n i) 0) (table_by (streams_kept f g whole head i)) (table_by []));
      }

  -- and so is each part
  pub main_alike : cut g (main_part g) ≡ cut f (main_part f)
  unfolding main_part
  main_alike = rw (accepted_alike, z) main

  pub fic_alike : cut g (fic_part g) ≡ cut f (fic_part f)
  unfolding fic_part
  fic_alike =
      let b = acceptable g accepted_alike in
      rw (accepted_alike, z) (fic_of_main g b ∙ ap₂ (λ (n : ℕ) (m : List ℕ). take (4 * n) m) (ficl_kept f g whole head) main ∙ sym (fic_of_main f a))

  -- a stream that the frame has, and one that it has not
  pub stream_alike : (i : ℕ) → cut g (stream_part g i) ≡ cut f (stream_part f i)
  unfolding stream_part
  stream_alike i = go (ltb i (nst_of f)) refl
    where
      go : (b : Bool) → ltb i (nst_of f) ≡ b → cut g (granted (stream_refusal_of g i) (stream_span g i)) ≡ cut f (granted (stream_refusal_of f i) (stream_span f i))
      go true e =
          let l = ltb-true i (nst_of f) e in
          let m : i < nst_of g = rw nst l in
          let p : stream_refusal_of g i ≡ 0 = sym (request_within g i (refusal_of g) refl accepted_alike m) in
          let q : stream_refusal_of f i ≡ 0 = sym (request_within f i (refusal_of f) refl z l) in
          rw (p, q)
          (stream_of_main g i (acceptable g accepted_alike) m
          ∙ (λ j. take (8 * (stream_kept f g whole head i l j).stl) (drop (4 * ficl_kept f g whole head j + 8 * stl_total (entries_kept f g whole head i (le_of_lt l) j)) (main j)))
          ∙ sym (stream_of_main f i a l))
      go false e =
          let l = ltb-false i (nst_of f) e in
          let p : stream_refusal_of g i ≡ 13 = sym (request_beyond g i (refusal_of g) refl accepted_alike (rw nst l)) in
          let q : stream_refusal_of f i ≡ 13 = sym (request_beyond f i (refusal_of f) refl z l) in
          rw (p, q)
