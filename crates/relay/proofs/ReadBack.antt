-- What is written and not refused is read back: number, values, entries and parts, by the round trip over the definitions.
-- Assumes nothing.
use mathlib.Core.List.{List, [], ◌∷◌}
use mathlib.Core.Path.{◌≡◌, refl, sym, ap, ap₂, subst, ◌∙◌}
use Prim.Native.Nat.{ℕ, ◌+◌, ◌*◌, ◌<◌}
use native.Mathlib.Nat.{le_of_lt}
use native.Mathlib.Omega.{arith}
use borrow.Author.Tests.{eq-eqb, ne_eqb}
use lib.ListN.{length, get_or, take, drop}
use Rattle.std.specs.Prelude.{Err}
use Rattle.refusals.specs.declared.Refusal.{Refusal}
use Rattle.refusals.specs.Refusals.{refusal_number}
use Rattle.refusals.proofs.Numbers.{above_zero}
use Rattle.frame.specs.declared.Fields.{Fields}
use Rattle.frame.specs.declared.Reading.{Reading}
use Rattle.frame.specs.declared.Span.{Span}
use Rattle.frame.specs.declared.Stream.{Stream}
use Rattle.frame.specs.Frame.{nst_of, ficl_of, ficl_by, stream_of, streams_to, stl_total, main_span, fic_span, stream_span, cut}
use Rattle.frame.specs.Rules.{refusal_of, Acceptable, stream_refusal_of, granted, main_part, fic_part, stream_part}
use Rattle.frame.specs.Answers.{no_stream, table_by, Reads}
use Rattle.frame.specs.Writing.{entries_of, ficl_in, writing_refusal_of, frame_in, written_of, Writes, Returned}
use Rattle.sum.specs.Sum.{sum_of}
use Rattle.frame.proofs.Accepting.{acceptable, request_within}
use Rattle.frame.proofs.Fixed.{apart}
use Rattle.frame.proofs.Streams.{streams_take, streams_at}
use Rattle.frame.proofs.Tiling.{granted_given, fic_of_main, stream_of_main}
use Rattle.trips.proofs.Agree.{Agree, agree}
use Rattle.trips.proofs.Writable.{writable}
use Rattle.trips.proofs.Written.{written_read}
use Rattle.relay.specs.Back.{PartsBack, ReadsBack}

-- the parts of a frame that gives back x and m
module _ (x : Fields) (m f : List ℕ) (t : Returned x m f) where
  a : Acceptable f
  a = acceptable f t.number

  g : Agree f x
  g = agree f x t.values

  ficl_is : ficl_of f ≡ ficl_in x
  ficl_is = ap₂ ficl_by g.ficf g.mid

  module _ (i : ℕ) (l : i < x.count) where
    there : i < nst_of f
    there = omega (arith, g.nst)

    stl_is : (stream_of f i).stl ≡ (get_or (entries_of x) i no_stream).stl
    stl_is = ap (λ (s : Stream). s.stl) (sym (streams_at f i (nst_of f) there) ∙ ap (λ (ss : List Stream). get_or ss i no_stream) t.streams)

    total_is : stl_total (streams_to f i) ≡ stl_total (take i (entries_of x))
    total_is = ap stl_total (sym (streams_take f i (nst_of f) (le_of_lt there)) ∙ ap (take i) t.streams)

    stream_back : cut f (stream_part f i) ≡ take (8 * (get_or (entries_of x) i no_stream).stl) (drop (4 * ficl_in x + 8 * stl_total (take i (entries_of x))) m)
    unfolding stream_part
    stream_back =
        ap (cut f) (sym (granted_given 0 (stream_refusal_of f i) (stream_span f i) (request_within f i 0 (sym t.number) refl there) refl))
        ∙ stream_of_main f i a there
        ∙ (λ j. take (8 * stl_is j) (drop (4 * ficl_is j + 8 * total_is j) (t.main j)))

  pub parts_back : PartsBack x m f
  unfolding main_part fic_part
  parts_back =
      let given : (s : Span) → cut f (granted (refusal_of f) s) ≡ cut f s = λ s. ap (cut f) (sym (granted_given 0 (refusal_of f) s (sym t.number) refl)) in
      record {
        main = given (main_span f) ∙ t.main;
        fic = given (fic_span f) ∙ fic_of_main f a ∙ (λ j. take (4 * ficl_is j) (t.main j));
        stream = stream_back;
      }

module _ (x : Fields) (m was is : List ℕ) where
  -- refused: writing's refusal, and the output as it was
  pub back_refused : (n : Refusal) → Writes x m was is (refusal_number n) → (t : List Stream) → t ≡ table_by [] → ReadsBack x m was is (record { answer = Err n; table = t })
  back_refused n w t e =
      let z : writing_refusal_of x (length m) (length was) ≡ 0 → ⊥ = λ p. above_zero n (w.number ∙ p) in
      let y = ne_eqb (writing_refusal_of x (length m) (length was)) 0 z in
      record { output = w.output; number = w.number; values = rw y; sums = rw y; table = rw y e; parts = λ p. absurd (z p) }

  -- not refused: what stands in the output is read back
  pub back_read : Writes x m was is 0 → length x.table ≡ 64 → (r : Reading) → Reads is r → ReadsBack x m was is r
  unfolding written_of
  back_read w l r reads =
      let o = sym w.number in
      let y = eq-eqb (writing_refusal_of x (length m) (length was)) 0 o in
      let f : is ≡ frame_in x m = w.output ∙ (rw y) in
      let t : Returned x m is = subst (Returned x m) (sym f) (written_read x m (writable x (length m) (length was) o) l) in
      let k = eq-eqb (refusal_of is) 0 t.number in
      let given = apart is r.answer (reads.values ∙ (rw k)) in
      record {
        output = w.output;
        number = reads.number ∙ t.number ∙ sym o;
        values = rw y (given.0 ∙ t.values);
        sums = rw y (given.1 ∙ (λ i. (sym t.clean.sum ∙ ap sum_of t.main) i ∷ sum_of (t.main i) ∷ []));
        table = rw y (reads.table ∙ (rw k (ap table_by t.streams)));
        parts = λ p. parts_back x m is t;
      }
