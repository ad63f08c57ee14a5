-- An accepted frame of bytes, cut into its words, its entries and its main stream.
-- Assumes nothing.
use mathlib.Core.List.{List, [], ◌∷◌, ◌++◌}
use mathlib.Core.Path.{◌≡◌, refl, sym, ap, ◌∙◌}
use Prim.Native.Nat.{ℕ, zero, suc, ◌+◌, ◌-◌, ◌*◌, ◌^◌, ◌<◌, ◌≤◌}
use native.Mathlib.Numerals.{add-one}
use native.Mathlib.Omega.{arith}
use lib.ListN.{length, get_or, take, drop, take-append-drop}
use lib.Seq.{drop-cons, drop-drop}
use Rattle.octets.specs.Words.{join, bytes4, word_at}
use Rattle.frame.specs.Frame.{sync_widths, err_of, fsync_of, fc_widths, fct_of, ficf_of, nst_of, fp_of, mid_of, fl_of, sstc_widths, stream_of, streams_to, streams_of, eoh_widths, mnsc_of, header_sum_of, main_start, main_end, main_of, eof_widths, main_sum_of, rfu_of, tist_widths, rfa_of, time_of, carried_by}
use Rattle.frame.specs.Rules.{Acceptable}
use Rattle.frame.specs.Writing.{stream_values, streams_bytes, Bytes}
use Rattle.octets.proofs.SplitJoin.{join_split, split_join, join_lt}
use Rattle.trips.proofs.Laid.{four, bytes_more, laid}

module _ (f : List ℕ) (b : Bytes f) where
  word_lt : (p : ℕ) → word_at f p < 2 ^ 32
  word_lt p = join_lt bytes4 (get_or f p 0 ∷ get_or f (p + 1) 0 ∷ get_or f (p + 2) 0 ∷ get_or f (p + 3) 0 ∷ []) (b p, (b (p + 1), (b (p + 2), (b (p + 3), tt))))

  -- ---- each word by its fields
  pub sync_word : word_at f 0 ≡ join sync_widths (err_of f ∷ fsync_of f ∷ [])
  unfolding err_of fsync_of
  sync_word = sym (join_split sync_widths (word_at f 0) (word_lt 0))

  pub fc_word : word_at f 4 ≡ join fc_widths (fct_of f ∷ ficf_of f ∷ nst_of f ∷ fp_of f ∷ mid_of f ∷ fl_of f ∷ [])
  unfolding fct_of ficf_of nst_of fp_of mid_of fl_of
  fc_word = sym (join_split fc_widths (word_at f 4) (word_lt 4))

  entry_word : (i : ℕ) → word_at f (4 + (i + 1) * 4) ≡ join sstc_widths (stream_values (stream_of f i))
  unfolding stream_of
  entry_word i = sym (join_split sstc_widths (word_at f (4 + (i + 1) * 4)) (word_lt (4 + (i + 1) * 4)))

  pub eoh_word : word_at f (4 + (nst_of f + 1) * 4) ≡ join eoh_widths (mnsc_of f ∷ header_sum_of f ∷ [])
  unfolding mnsc_of header_sum_of
  eoh_word = sym (join_split eoh_widths (word_at f (4 + (nst_of f + 1) * 4)) (word_lt (4 + (nst_of f + 1) * 4)))

  pub eof_word : word_at f (4 + (fl_of f + 1) * 4) ≡ join eof_widths (main_sum_of f ∷ rfu_of f ∷ [])
  unfolding main_sum_of rfu_of
  eof_word = sym (join_split eof_widths (word_at f (4 + (fl_of f + 1) * 4)) (word_lt (4 + (fl_of f + 1) * 4)))

  pub tist_word : word_at f (4 + (fl_of f + 2) * 4) ≡ join tist_widths (rfa_of f ∷ time_of f ∷ [])
  unfolding rfa_of time_of
  tist_word = sym (join_split tist_widths (word_at f (4 + (fl_of f + 2) * 4)) (word_lt (4 + (fl_of f + 2) * 4)))

  -- ---- what is left of the frame from p on: a word, and what is left behind it
  step : (p q : ℕ) → q ≡ p + 1 → p < length f → drop p f ≡ get_or f p 0 ∷ drop q f
  step p q e h = rw (e, add-one p) (drop-cons f p 0 h)

  word_off : (p q : ℕ) → q ≡ p + 4 → q ≤ length f → drop p f ≡ four (word_at f p) ++ drop q f
  unfolding four
  word_off p q e h =
      rw (step p (p + 1) refl (omega arith), step (p + 1) (p + 2) (omega arith) (omega arith), step (p + 2) (p + 3) (omega arith) (omega arith), step (p + 3) q (omega arith) (omega arith))
      (ap (λ (l : List ℕ). l ++ drop q f)
      (sym (split_join bytes4 (get_or f p 0 ∷ get_or f (p + 1) 0 ∷ get_or f (p + 2) 0 ∷ get_or f (p + 3) 0 ∷ []) (b p, (b (p + 1), (b (p + 2), (b (p + 3), tt)))))))

  entries_off : (n q : ℕ) → q ≡ 8 + 4 * n → q ≤ length f → drop 8 f ≡ streams_bytes (streams_to f n) ++ drop q f
  unfolding streams_to streams_bytes
  entries_off zero q e h = ap (λ (k : ℕ). drop k f) (sym e)
  entries_off (suc n) q e h =
      let p = 4 + (n + 1) * 4 in
      entries_off n p (omega arith) (omega arith)
      ∙ ap (λ (l : List ℕ). streams_bytes (streams_to f n) ++ l) (word_off p q (omega arith) h)
      ∙ bytes_more (streams_to f n) (stream_of f n) (word_at f p) (drop q f) (entry_word n)

  main_off : (p q : ℕ) → p ≤ q → drop p f ≡ take (q - p) (drop p f) ++ drop q f
  main_off p q h =
      let e : p + (q - p) ≡ q = omega arith in
      sym (take-append-drop (q - p) (drop p f)) ∙ ap (λ (l : List ℕ). take (q - p) (drop p f) ++ l) (drop-drop (q - p) p f ∙ ap (λ (k : ℕ). drop k f) e)

  pub pieces : Acceptable f → f ≡ laid (word_at f 0) (word_at f 4) (streams_of f) (word_at f (4 + (nst_of f + 1) * 4)) (main_of f) (word_at f (main_end (fl_of f))) (word_at f (4 + (fl_of f + 2) * 4)) (drop (carried_by (fl_of f)) f)
  unfolding laid
  pieces a =
      let n = nst_of f in
      let fl = fl_of f in
      word_off 0 4 refl (omega (arith, a.whole))
      ∙ ap (λ (l : List ℕ). four (word_at f 0) ++ l)
      (word_off 4 8 refl (omega (arith, a.whole))
      ∙ ap (λ (l : List ℕ). four (word_at f 4) ++ l)
      (entries_off n (4 + (n + 1) * 4) (omega arith) (omega (arith, a.whole, a.formula, a.room))
      ∙ ap (λ (l : List ℕ). streams_bytes (streams_of f) ++ l)
      (word_off (4 + (n + 1) * 4) (main_start n) (omega arith) (omega (arith, a.whole, a.formula, a.room))
      ∙ ap (λ (l : List ℕ). four (word_at f (4 + (n + 1) * 4)) ++ l)
      (main_off (main_start n) (main_end fl) (omega (arith, a.formula))
      ∙ ap (λ (l : List ℕ). main_of f ++ l)
      (word_off (main_end fl) (4 + (fl + 2) * 4) (omega arith) (omega (arith, a.whole, a.room))
      ∙ ap (λ (l : List ℕ). four (word_at f (main_end fl)) ++ l)
      (word_off (4 + (fl + 2) * 4) (carried_by fl) (omega arith) (omega (arith, a.whole, a.room))))))))
