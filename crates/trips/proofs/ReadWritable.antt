-- What was read from an accepted frame is never refused by writing.
-- Assumes nothing.
use mathlib.Core.Bool.{Bool, true, false}
use mathlib.Core.List.{List, [], ◌∷◌, ◌++◌}
use mathlib.Core.Path.{◌≡◌, sym, ap, ap₂, subst, ◌∙◌}
use Prim.Native.Nat.{ℕ, zero, suc, ◌+◌, ◌*◌, ◌≤◌}
use native.Mathlib.Omega.{arith}
use lib.Dec.{eqb}
use lib.ListN.{length, length-take, length-drop}
use Rattle.sum.specs.Sum.{sum_of}
use Rattle.frame.specs.declared.Fields.{Fields}
use Rattle.frame.specs.declared.Stream.{Stream}
use Rattle.frame.specs.declared.Timestamp.{Timestamp}
use Rattle.octets.specs.Words.{Fit, word_at}
use Rattle.octets.specs.Choice.{place_in}
use Rattle.frame.specs.Frame.{statuses, err_of, nst_of, ficl_by, ficl_of, sstc_widths, stream_of, streams_to, streams_of, stl_total, main_of, main_sum_of, time_of, level_by, level_of}
use Rattle.frame.specs.Rules.{some_stl_above, refusal_of, Acceptable}
use Rattle.frame.specs.Answers.{timestamp_for, returning_of}
use Rattle.frame.specs.Writing.{entries_of, values_in, time_wider, stream_values, writing_refusal_of, AllFit, Writable}
use Rattle.frame.proofs.Accepting.{acceptable}
use Rattle.frame.proofs.Headers.{time_of_lt}
use Rattle.frame.proofs.Places.{status_placed}
use Rattle.frame.proofs.Streams.{none_above}
use Rattle.frame.proofs.Timestamps.{timestamp_fixed, time_carried}
use Rattle.octets.proofs.SplitJoin.{split_fit}
use Rattle.trips.proofs.Agree.{Agree, agree}
use Rattle.trips.proofs.Fitting.{plain_fit}
use Rattle.trips.proofs.Writable.{unrefused}

-- the level handed on is one of 0 to 3
pub level_le : (n : ℕ) (b : Bool) → n ≤ 3 → level_by n b ≤ 3
unfolding level_by
level_le n true h = h
level_le n false h = omega arith

-- ---- entries that are read are within their widths
fit_more : (ss : List Stream) (s : Stream) → AllFit ss → Fit sstc_widths (stream_values s) → AllFit (ss ++ (s ∷ []))
fit_more [] s a h = (h, tt)
fit_more (r ∷ ss) s a h = (a.0, fit_more ss s a.1 h)

entry_fit : (f : List ℕ) (i : ℕ) → Fit sstc_widths (stream_values (stream_of f i))
unfolding stream_of
entry_fit f i = split_fit sstc_widths (word_at f (4 + (i + 1) * 4))

entries_fit : (f : List ℕ) (n : ℕ) → AllFit (streams_to f n)
unfolding streams_to
entries_fit f zero = tt
entries_fit f (suc n) = fit_more (streams_to f n) (stream_of f n) (entries_fit f n) (entry_fit f n)

-- the main stream of an accepted frame is as long as its FIC and streams
main_length : (f : List ℕ) → Acceptable f → length (main_of f) ≡ 4 * ficl_of f + 8 * stl_total (streams_of f)
main_length f a = simp (length-take, length-drop) (omega (arith, a.whole, a.formula, a.room))

module _ (f : List ℕ) (a : Acceptable f) (x : Fields) (g : Agree f x) (s : streams_of f ≡ entries_of x) where
  pub read_writable : Writable x (length (main_of f))
  unfolding level_of
  read_writable =
      record {
        level = rw g.level at (level_le (place_in statuses (err_of f)) (eqb (sum_of (main_of f)) (main_sum_of f)) (status_placed (err_of f) a.status));
        plain = let p = plain_fit f in omega arith;
        time = subst (λ (t : Timestamp). time_wider t ≡ false) (timestamp_fixed (timestamp_for (time_of f)) x.timestamp g.timestamp) (time_carried (time_of f) (time_of_lt f));
        entries = subst AllFit s (entries_fit f (nst_of f));
        streams = omega (arith, a.streams, g.nst);
        counted = omega (arith, a.counted, g.fct);
        lengths = ap (some_stl_above 684) (sym s) ∙ none_above 684 f (nst_of f) a.lengths;
        room = omega (arith, a.room, g.fl);
        whole = main_length f a ∙ ap₂ (λ (j k : ℕ). 4 * j + 8 * k) (ap₂ ficl_by g.ficf g.mid) (ap stl_total s);
      }

pub read_unrefused : (f : List ℕ) → refusal_of f ≡ 0 → (x : Fields) → returning_of f ≡ values_in x → streams_of f ≡ entries_of x → writing_refusal_of x (length (main_of f)) 6144 ≡ 0
read_unrefused f r x v s = unrefused x (length (main_of f)) (read_writable f (acceptable f r) x (agree f x v) s)
