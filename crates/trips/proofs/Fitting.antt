-- From a frame's words to its fields: a word put together from values is read as those values.
-- Assumes nothing.
use mathlib.Core.List.{List, [], ◌∷◌}
use mathlib.Core.Path.{◌≡◌, refl, ap, ◌∙◌}
use Prim.Native.Nat.{ℕ, zero, suc, ◌+◌, ◌*◌, ◌^◌, ◌<◌, ◌≤◌}
use native.Mathlib.Nat.{le_of_lt}
use lib.Dec.{lit<}
use lib.ListN.{length, get_or, take}
use lib.Seq.{take-suc}
use borrow.Author.Tests.{eq-eqb}
use Rattle.sum.specs.Sum.{sum_of}
use Rattle.frame.specs.declared.Stream.{Stream}
use Rattle.octets.specs.Words.{split, join, Fit, word_at}
use Rattle.octets.specs.Choice.{place_in}
use Rattle.frame.specs.Frame.{sync_widths, err_of, fsync_of, status_by, fsync_by, fc_widths, fc_of, fct_of, ficf_of, nst_of, fp_of, mid_of, fl_of, sstc_widths, stream_of, streams_to, eoh_widths, eoh_of, mnsc_of, header_sum_of, eof_widths, eof_of, main_sum_of, rfu_of, tist_widths, tist_of, rfa_of, time_of, statuses, main_of, level_by, level_of}
use Rattle.frame.specs.Answers.{no_stream}
use Rattle.frame.specs.Writing.{stream_values, Clean, plain_widths}
use Rattle.octets.proofs.SplitJoin.{split_fit, split_join}

-- ---- bounds
pub status_lt : (level : ℕ) → status_by level < 2 ^ 8
status_lt zero = lit< tt
status_lt (suc zero) = lit< tt
status_lt (suc (suc zero)) = lit< tt
status_lt (suc (suc (suc zero))) = lit< tt
status_lt (suc (suc (suc (suc level)))) = lit< tt

pub fsync_lt : (which : ℕ) → fsync_by which < 2 ^ 24
fsync_lt zero = lit< tt
fsync_lt (suc zero) = lit< tt
fsync_lt (suc (suc which)) = lit< tt

-- a clean frame's level is the one read
pub clean_level : (f : List ℕ) → Clean f → level_of f ≡ place_in statuses (err_of f)
unfolding level_of level_by
clean_level f k = rw (eq-eqb (sum_of (main_of f)) (main_sum_of f) k.sum)

-- ---- the fields of each word
-- FC of ones only has an FCT that no frame may have
pub all_ones : (f : List ℕ) → word_at f 4 ≡ 0xFFFFFFFF → fct_of f ≡ 255
unfolding fct_of
all_ones f e = ap (λ (w : ℕ). get_or (split fc_widths w) 0 0) e

module _ (f : List ℕ) where
  pub sync_read : (a b : ℕ) → word_at f 0 ≡ join sync_widths (a ∷ b ∷ []) → Fit sync_widths (a ∷ b ∷ []) → (err_of f ≡ a) × (fsync_of f ≡ b)
  unfolding err_of fsync_of
  sync_read a b e h =
      let p = ap (split sync_widths) e ∙ split_join sync_widths (a ∷ b ∷ []) h in
      (ap (λ (l : List ℕ). get_or l 0 0) p, ap (λ (l : List ℕ). get_or l 1 0) p)

  pub record FcRead (a b c d e g : ℕ) : Type 0 where
    pub fct : fct_of f ≡ a
    pub ficf : ficf_of f ≡ b
    pub nst : nst_of f ≡ c
    pub fp : fp_of f ≡ d
    pub mid : mid_of f ≡ e
    pub fl : fl_of f ≡ g

  pub fc_read : (a b c d e g : ℕ) → word_at f 4 ≡ join fc_widths (a ∷ b ∷ c ∷ d ∷ e ∷ g ∷ []) → Fit fc_widths (a ∷ b ∷ c ∷ d ∷ e ∷ g ∷ []) → FcRead a b c d e g
  unfolding fct_of ficf_of nst_of fp_of mid_of fl_of
  fc_read a b c d e g w h =
      let p : fc_of f ≡ a ∷ b ∷ c ∷ d ∷ e ∷ g ∷ [] = ap (split fc_widths) w ∙ split_join fc_widths (a ∷ b ∷ c ∷ d ∷ e ∷ g ∷ []) h in
      record {
        fct = ap (λ (l : List ℕ). get_or l 0 0) p;
        ficf = ap (λ (l : List ℕ). get_or l 1 0) p;
        nst = ap (λ (l : List ℕ). get_or l 2 0) p;
        fp = ap (λ (l : List ℕ). get_or l 3 0) p;
        mid = ap (λ (l : List ℕ). get_or l 4 0) p;
        fl = ap (λ (l : List ℕ). get_or l 5 0) p;
      }

  pub eoh_read : (a b : ℕ) → word_at f (4 + (nst_of f + 1) * 4) ≡ join eoh_widths (a ∷ b ∷ []) → Fit eoh_widths (a ∷ b ∷ []) → (mnsc_of f ≡ a) × (header_sum_of f ≡ b)
  unfolding mnsc_of header_sum_of
  eoh_read a b e h =
      let p : eoh_of f ≡ a ∷ b ∷ [] = ap (split eoh_widths) e ∙ split_join eoh_widths (a ∷ b ∷ []) h in
      (ap (λ (l : List ℕ). get_or l 0 0) p, ap (λ (l : List ℕ). get_or l 1 0) p)

  pub eof_read : (a b : ℕ) → word_at f (4 + (fl_of f + 1) * 4) ≡ join eof_widths (a ∷ b ∷ []) → Fit eof_widths (a ∷ b ∷ []) → (main_sum_of f ≡ a) × (rfu_of f ≡ b)
  unfolding main_sum_of rfu_of
  eof_read a b e h =
      let p : eof_of f ≡ a ∷ b ∷ [] = ap (split eof_widths) e ∙ split_join eof_widths (a ∷ b ∷ []) h in
      (ap (λ (l : List ℕ). get_or l 0 0) p, ap (λ (l : List ℕ). get_or l 1 0) p)

  pub tist_read : (a b : ℕ) → word_at f (4 + (fl_of f + 2) * 4) ≡ join tist_widths (a ∷ b ∷ []) → Fit tist_widths (a ∷ b ∷ []) → (rfa_of f ≡ a) × (time_of f ≡ b)
  unfolding rfa_of time_of
  tist_read a b e h =
      let p : tist_of f ≡ a ∷ b ∷ [] = ap (split tist_widths) e ∙ split_join tist_widths (a ∷ b ∷ []) h in
      (ap (λ (l : List ℕ). get_or l 0 0) p, ap (λ (l : List ℕ). get_or l 1 0) p)

  pub entry_read : (i : ℕ) (s : Stream) → word_at f (4 + (i + 1) * 4) ≡ join sstc_widths (stream_values s) → Fit sstc_widths (stream_values s) → stream_of f i ≡ s
  unfolding stream_of
  entry_read i s e h =
      let p : split sstc_widths (word_at f (4 + (i + 1) * 4)) ≡ stream_values s = ap (split sstc_widths) e ∙ split_join sstc_widths (stream_values s) h in
      ap
      (λ (l : List ℕ). record { scid = get_or l 0 0; sad = get_or l 1 0; tpl = get_or l 2 0; stl = get_or l 3 0 })
      p

  pub entries_read : (ss : List Stream) → ((i : ℕ) → i < length ss → stream_of f i ≡ get_or ss i no_stream) → (n : ℕ) → n ≤ length ss → streams_to f n ≡ take n ss
  unfolding streams_to
  entries_read ss e zero h = refl
  entries_read ss e (suc n) h =
      rw (take-suc ss n no_stream h, entries_read ss e n (le_of_lt h), e n h)

  -- fields that are read are within their widths
  pub plain_fit : Fit plain_widths (fct_of f ∷ fp_of f ∷ mid_of f ∷ mnsc_of f ∷ rfu_of f ∷ rfa_of f ∷ [])
  unfolding fct_of fp_of mid_of mnsc_of rfu_of rfa_of
  plain_fit =
      let c = split_fit fc_widths (word_at f 4) in
      let e = split_fit eoh_widths (word_at f (4 + (nst_of f + 1) * 4)) in
      let z = split_fit eof_widths (word_at f (4 + (fl_of f + 1) * 4)) in
      let t = split_fit tist_widths (word_at f (4 + (fl_of f + 2) * 4)) in
      (c.0, (c.1.1.1.0, (c.1.1.1.1.0, (e.0, (z.1.0, (t.0, tt))))))

  pub header_sum-lt : header_sum_of f < 2 ^ 16
  unfolding header_sum_of
  header_sum-lt = (split_fit eoh_widths (word_at f (4 + (nst_of f + 1) * 4))).1.0
