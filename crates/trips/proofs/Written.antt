-- What is written and read back: every field, every entry and the main stream.
-- Assumes nothing.
use mathlib.Core.List.{List}
use mathlib.Core.Path.{◌≡◌, refl, sym, ap, ap₂, ◌∙◌}
use Prim.Native.Nat.{ℕ, ◌+◌, ◌-◌, ◌*◌, ◌<◌}
use native.Mathlib.Nat.{le_refl}
use native.Mathlib.Omega.{arith}
use lib.ListN.{length, get_or, take, drop, replicate, length-replicate}
use lib.Seq.{take-length, length-take-le}
use Rattle.sum.specs.Sum.{sum_of}
use Rattle.sum.proofs.SumLaws.{sum_lt}
use Rattle.frame.specs.declared.Fields.{Fields}
use Rattle.octets.specs.Words.{Fit, word_at}
use Rattle.octets.specs.Choice.{place_in}
use Rattle.frame.specs.Frame.{statuses, status_by, fsyncs, fsync_by, sync_widths, err_of, fsync_of, fc_widths, nst_of, fl_of, ficl_by, stream_of, streams_to, streams_of, stl_total, eoh_widths, header_bytes_of, header_sum_of, mnsc_of, main_start, main_end, main_of, eof_widths, main_sum_of, rfu_of, tist_widths, rfa_of, time_of, carried_by}
use Rattle.frame.specs.Rules.{some_stl_above, Acceptable}
use Rattle.frame.specs.Answers.{digit, no_stream, time_by, timestamp_values, timestamp_for}
use Rattle.frame.specs.Writing.{entries_of, ficl_in, fl_in, Writable, header_in, frame_in, Clean, Returned}
use Rattle.octets.proofs.SplitJoin.{join_lt}
use Rattle.frame.proofs.Accepting.{accepted}
use Rattle.frame.proofs.Places.{level_back, fsync_back, fsync_one, status_one}
use Rattle.frame.proofs.Streams.{each_within}
use Rattle.frame.proofs.Timestamps.{time_lt, time_back}
use Rattle.sum.proofs.Bits.{digit_lt}
use Rattle.trips.proofs.Agree.{agreed}
use Rattle.trips.proofs.Laid.{two, two_length, halves, fit_at, laid_length, at_sync, at_fc, at_entry, at_eoh, at_eof, at_tist, header_of, main_of_lem, padding_of, sync_values, fc_values, eoh_values, eof_values, tist_values, padding_in, header_laid, laid_in, frame_laid}
use Rattle.trips.proofs.Fitting.{status_lt, fsync_lt, clean_level, all_ones, FcRead, sync_read, fc_read, eoh_read, eof_read, tist_read, entry_read, entries_read}

module _ (x : Fields) (m : List ℕ) (w : Writable x (length m)) (l : length x.table ≡ 64) (f : List ℕ) (g : f ≡ laid_in x m) where
  entries : length (entries_of x) ≡ x.count
  entries = length-take-le x.count x.table (omega (arith, w.streams))

  fl_is : fl_in x ≡ x.count + 1 + ficl_in x + 2 * stl_total (entries_of x)
  unfolding fl_in
  fl_is = refl

  whole : length f ≡ 6144
  unfolding laid_in
  whole =
      ap length g ∙ laid_length _ _ _ _ _ _ _ _
      ∙ rw (length-replicate, entries) (omega (arith, fl_is, w.room, w.whole))

  -- ---- the words
  sync : (err_of f ≡ status_by x.level) × (fsync_of f ≡ fsync_by (digit x.fsync1))
  unfolding laid_in
  sync =
      let h : Fit sync_widths (sync_values x) = (status_lt x.level, (fsync_lt (digit x.fsync1), tt)) in
      sync_read f _ _ (ap (λ (f : List ℕ). word_at f 0) g ∙ at_sync _ _ _ _ _ _ _ _ (join_lt sync_widths (sync_values x) h)) h

  fc : FcRead f x.fct (digit x.ficf) x.count x.fp x.mid (fl_in x)
  unfolding laid_in
  fc =
      let p = w.plain in
      let h : Fit fc_widths (fc_values x) =
      (p.0, (digit_lt x.ficf, (omega (arith, w.streams), (p.1.0, (p.1.1.0, (omega (arith, w.room), tt)))))) in
      fc_read f _ _ _ _ _ _ (ap (λ (f : List ℕ). word_at f 4) g ∙ at_fc _ _ _ _ _ _ _ _ (join_lt fc_widths (fc_values x) h)) h

  halves_fit : Fit eoh_widths (eoh_values x)
  halves_fit = (w.plain.1.1.1.0, (sum_lt (header_in x), tt))

  eoh : (mnsc_of f ≡ x.mnsc) × (header_sum_of f ≡ sum_of (header_in x))
  unfolding laid_in
  eoh =
      let p = 4 + (nst_of f + 1) * 4 in
      let h = halves_fit in
      eoh_read f _ _
      (ap (λ (f : List ℕ). word_at f p) g
      ∙ at_eoh _ _ _ _ _ _ _ _ p (omega (arith, fc.nst, entries)) (join_lt eoh_widths (eoh_values x) h))
      h

  eof : (main_sum_of f ≡ sum_of m) × (rfu_of f ≡ x.rfu)
  unfolding laid_in
  eof =
      let p = 4 + (fl_of f + 1) * 4 in
      let h : Fit eof_widths (eof_values x m) = (sum_lt m, (w.plain.1.1.1.1.0, tt)) in
      eof_read f _ _
      (ap (λ (f : List ℕ). word_at f p) g
      ∙ at_eof _ _ _ _ _ _ _ _ p (omega (arith, fc.fl, fl_is, entries, w.whole)) (join_lt eof_widths (eof_values x m) h))
      h

  tist : (rfa_of f ≡ x.rfa) × (time_of f ≡ time_by x.timestamp)
  unfolding laid_in
  tist =
      let p = 4 + (fl_of f + 2) * 4 in
      let h : Fit tist_widths (tist_values x) = (w.plain.1.1.1.1.1.0, (time_lt x.timestamp w.time, tt)) in
      tist_read f _ _
      (ap (λ (f : List ℕ). word_at f p) g
      ∙ at_tist _ _ _ _ _ _ _ _ p (omega (arith, fc.fl, fl_is, entries, w.whole)) (join_lt tist_widths (tist_values x) h))
      h

  -- ---- the parts
  entry : (i : ℕ) → i < length (entries_of x) → stream_of f i ≡ get_or (entries_of x) i no_stream
  unfolding laid_in
  entry i h =
      entry_read f i (get_or (entries_of x) i no_stream)
      (ap (λ (f : List ℕ). word_at f (4 + (i + 1) * 4)) g ∙ at_entry _ _ _ _ _ _ _ _ i w.entries h)
      (fit_at (entries_of x) i w.entries h)

  streams : streams_of f ≡ entries_of x
  streams =
      ap (streams_to f) (fc.nst ∙ sym entries)
      ∙ entries_read f (entries_of x) entry (length (entries_of x)) (le_refl (length (entries_of x)))
      ∙ take-length (entries_of x)

  main : main_of f ≡ m
  unfolding laid_in
  main =
      let p = main_start (nst_of f) in
      let k = main_end (fl_of f) - p in
      ap (λ (f : List ℕ). take k (drop p f)) g
      ∙ main_of_lem _ _ _ _ _ _ _ _ p k (omega (arith, fc.nst, entries)) (omega (arith, fc.nst, fc.fl, fl_is, w.whole))

  header : header_bytes_of f ≡ header_in x
  unfolding laid_in
  header =
      let k = (4 + ((nst_of f + 1) * 4 + 2)) - 4 in
      let h = halves_fit in
      ap (λ (f : List ℕ). take k (drop 4 f)) g
      ∙ header_of _ _ _ _ _ _ _ _ k (omega (arith, fc.nst, entries)) (two x.mnsc) (two (sum_of (header_in x)))
      (sym (halves x.mnsc (sum_of (header_in x)) h.0 h.1.0))
      (two_length x.mnsc)
      ∙ header_laid x

  padding : drop (carried_by (fl_of f)) f ≡ padding_in x
  unfolding laid_in
  padding =
      let p = carried_by (fl_of f) in
      ap (drop p) g ∙ padding_of _ _ _ _ _ _ _ _ p (omega (arith, fc.fl, fl_is, entries, w.whole))

  -- ---- none of reading's rules holds, and nothing is handed on that was not read
  clean : Clean f
  clean =
      record {
        sum = ap sum_of main ∙ sym eof.0;
        padding = padding ∙ ap (λ (n : ℕ). replicate (6144 - carried_by n) 0x55) (sym fc.fl);
      }

  which : place_in fsyncs (fsync_of f) ≡ digit x.fsync1
  which = ap (place_in fsyncs) sync.1 ∙ fsync_back (digit x.fsync1) (digit_lt x.fsync1)

  status : place_in statuses (err_of f) ≡ x.level
  status = ap (place_in statuses) sync.0 ∙ level_back x.level (omega (arith, w.level))

  acceptable : Acceptable f
  acceptable =
      record {
        whole = whole;
        synced = fsync_one (fsync_of f) (omega (arith, which, digit_lt x.fsync1));
        status = status_one (err_of f) (omega (arith, status, w.level));
        carrying = λ e. omega (arith, all_ones f e, fc.fct, w.counted);
        streams = omega (arith, fc.nst, w.streams);
        headed = ap sum_of header ∙ sym eoh.1;
        counted = omega (arith, fc.fct, w.counted);
        lengths = each_within 684 f (nst_of f) (ap (some_stl_above 684) streams ∙ w.lengths);
        formula = omega (arith, fc.fl, fl_is, fc.nst, ap₂ ficl_by fc.ficf fc.mid, ap stl_total streams);
        room = omega (arith, fc.fl, w.room);
      }

  returned : Returned x m f
  returned =
      record {
        number = accepted f acceptable;
        values =
            agreed f x
            (record {
              level = clean_level f clean ∙ status;
              fsync = which;
              fct = fc.fct;
              ficf = fc.ficf;
              nst = fc.nst;
              fp = fc.fp;
              mid = fc.mid;
              fl = fc.fl;
              mnsc = eoh.0;
              rfu = eof.1;
              rfa = tist.0;
              timestamp = ap timestamp_values (ap timestamp_for tist.1 ∙ time_back x.timestamp w.time);
            });
        streams = streams;
        main = main;
        clean = clean;
      }

pub written_read : (x : Fields) (m : List ℕ) → Writable x (length m) → length x.table ≡ 64 → Returned x m (frame_in x m)
written_read x m w l = returned x m w l (frame_in x m) (frame_laid x m w.plain.1.1.1.0 w.plain.1.1.1.1.0)

pub written_length : (x : Fields) (m : List ℕ) → Writable x (length m) → length x.table ≡ 64 → length (frame_in x m) ≡ 6144
written_length x m w l = whole x m w l (frame_in x m) (frame_laid x m w.plain.1.1.1.0 w.plain.1.1.1.1.0)
