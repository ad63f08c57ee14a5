-- The one frame: an accepted clean frame is the one that writing makes of what was read from it.
-- Assumes nothing.
use mathlib.Core.List.{List, [], ◌∷◌, ◌++◌}
use mathlib.Core.Path.{◌≡◌, sym, ap, ◌∙◌}
use Prim.Native.Nat.{ℕ, ◌+◌, ◌-◌, ◌*◌}
use native.Mathlib.Omega.{arith}
use lib.ListN.{take, drop, replicate}
use Rattle.sum.specs.Sum.{sum_of}
use Rattle.frame.specs.declared.Fields.{Fields}
use Rattle.octets.specs.Words.{join, word_at}
use Rattle.frame.specs.Frame.{statuses, status_by, fsyncs, fsync_by, sync_widths, err_of, fsync_of, fc_widths, nst_of, fl_of, streams_of, eoh_widths, header_bytes_of, header_sum_of, mnsc_of, main_end, main_of, eof_widths, tist_widths, time_of, carried_by}
use Rattle.frame.specs.Rules.{refusal_of, Acceptable}
use Rattle.frame.specs.Answers.{digit, time_by, timestamp_for, returning_of}
use Rattle.frame.specs.Writing.{entries_of, values_in, streams_bytes, header_in, frame_in, Bytes, Clean}
use Rattle.frame.proofs.Accepting.{acceptable}
use Rattle.frame.proofs.Places.{status_placed, fsync_placed}
use Rattle.frame.proofs.Timestamps.{timestamp_fixed, time_kept}
use Rattle.octets.proofs.Deciding.{at_place}
use Rattle.frame.proofs.Streams.{streams_length}
use Rattle.trips.proofs.Agree.{Agree, agree}
use Rattle.trips.proofs.Laid.{four, two, two_length, halves, laid, header_of, fc_values, header_laid, laid_in, frame_laid}
use Rattle.trips.proofs.Pieces.{sync_word, fc_word, eoh_word, eof_word, tist_word, pieces}
use Rattle.trips.proofs.Fitting.{clean_level, header_sum-lt, plain_fit}

module _ (f : List ℕ) (a : Acceptable f) (b : Bytes f) (k : Clean f) (x : Fields) (g : Agree f x) (s : streams_of f ≡ entries_of x) where
  status : err_of f ≡ status_by x.level
  status = sym (at_place statuses (err_of f) (omega (arith, status_placed (err_of f) a.status))) ∙ ap status_by (sym (clean_level f k) ∙ g.level)

  which : fsync_of f ≡ fsync_by (digit x.fsync1)
  which = sym (at_place fsyncs (fsync_of f) (omega (arith, fsync_placed (fsync_of f) a.synced))) ∙ ap fsync_by g.fsync

  time : time_of f ≡ time_by x.timestamp
  time = sym (time_kept (time_of f)) ∙ ap time_by (timestamp_fixed (timestamp_for (time_of f)) x.timestamp g.timestamp)

  fc : word_at f 4 ≡ join fc_widths (fc_values x)
  fc = fc_word f b ∙ (λ i. join fc_widths (g.fct i ∷ g.ficf i ∷ g.nst i ∷ g.fp i ∷ g.mid i ∷ g.fl i ∷ []))

  header : header_bytes_of f ≡ header_in x
  header =
      let n = (4 + ((nst_of f + 1) * 4 + 2)) - 4 in
      ap (λ (f : List ℕ). take n (drop 4 f)) (pieces f b a)
      ∙ header_of _ _ _ _ _ _ _ _ n (omega (arith, streams_length f (nst_of f))) (two (mnsc_of f)) (two (header_sum_of f))
      (ap four (eoh_word f b) ∙ sym (halves (mnsc_of f) (header_sum_of f) (plain_fit f).1.1.1.0 (header_sum-lt f)))
      (two_length (mnsc_of f))
      ∙ (λ i. four (fc i) ++ streams_bytes (s i) ++ two (g.mnsc i))
      ∙ header_laid x

  -- each word and part is the one that x calls for
  words : laid (word_at f 0) (word_at f 4) (streams_of f) (word_at f (4 + (nst_of f + 1) * 4)) (main_of f) (word_at f (main_end (fl_of f))) (word_at f (4 + (fl_of f + 2) * 4)) (drop (carried_by (fl_of f)) f) ≡ laid_in x (main_of f)
  unfolding laid_in
  words =
      let sync = sync_word f b ∙ (λ i. join sync_widths (status i ∷ which i ∷ [])) in
      let sum = sym a.headed ∙ ap sum_of header in
      let eoh = eoh_word f b ∙ (λ i. join eoh_widths (g.mnsc i ∷ sum i ∷ [])) in
      let read = sym k.sum in
      let eof = eof_word f b ∙ (λ i. join eof_widths (read i ∷ g.rfu i ∷ [])) in
      let tist = tist_word f b ∙ (λ i. join tist_widths (g.rfa i ∷ time i ∷ [])) in
      let padding = k.padding ∙ ap (λ (n : ℕ). replicate (6144 - carried_by n) 0x55) g.fl in
      λ i. laid (sync i) (fc i) (s i) (eoh i) (main_of f) (eof i) (tist i) (padding i)

  same_frame : frame_in x (main_of f) ≡ f
  same_frame =
      let mnsc = rw g.mnsc at (plain_fit f).1.1.1.0 in
      let rfu = rw g.rfu at (plain_fit f).1.1.1.1.0 in
      frame_laid x (main_of f) mnsc rfu ∙ sym words ∙ sym (pieces f b a)

pub one_frame : (f : List ℕ) → refusal_of f ≡ 0 → Bytes f → Clean f → (x : Fields) (m : List ℕ) → returning_of f ≡ values_in x → streams_of f ≡ entries_of x → main_of f ≡ m → frame_in x m ≡ f
one_frame f r b k x m v s e = ap (frame_in x) (sym e) ∙ same_frame f (acceptable f r) b k x (agree f x v) s
