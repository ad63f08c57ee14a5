-- What reading handed out, written again: the fields are the frame's, so writing refuses none of them, and a clean frame comes out as it went in.
-- Assumes nothing.
use mathlib.Core.Bool.{Bool, true, false, not}
use mathlib.Core.List.{List, [], ◌∷◌}
use mathlib.Core.Path.{◌≡◌, refl, sym, ap, ap₂, subst, ◌∙◌}
use Prim.Native.Nat.{ℕ, ◌-◌}
use borrow.Author.Tests.{eq-eqb, ne_eqb, eqb-true}
use denote.Ref.{Bor}
use lib.Dec.{eqb}
use lib.ListN.{length, replicate}
use lib.Seq.{take_at}
use Rattle.std.specs.Prelude.{Ok}
use Rattle.frame.specs.declared.Fields.{Fields}
use Rattle.frame.specs.declared.Header.{Header}
use Rattle.frame.specs.declared.Reading.{Reading}
use Rattle.frame.specs.declared.Span.{Span}
use Rattle.frame.specs.declared.Stream.{Stream}
use Rattle.frame.specs.Frame.{nst_of, mid_of, fl_of, ficf_of, ficl_by, ficl_of, stl_total, fl_by, streams_of, main_span, main_of}
use Rattle.frame.specs.Rules.{◌when◌, first, rules_of, refusal_of, Acceptable, main_part}
use Rattle.frame.specs.Answers.{digit, timestamp_values, no_stream, returning_of, table_by, Reads, PartAt, header_for}
use Rattle.frame.specs.Writing.{entries_of, fl_in, values_in, writing_refusal_of, frame_in, written_of, Writes, Bytes, Clean}
use Rattle.frame.proofs.Accepting.{acceptable, nothing}
use Rattle.frame.proofs.Tiling.{granted_given}
use Rattle.frame.proofs.FirstRule.{first_zero, first_found}
use Rattle.frame.proofs.Streams.{streams_length}
use Rattle.reading.proofs.Answered.{got_header, got_table}
use Rattle.frame.proofs.Headers.{returning_values_lem, digit_of, ficf_lt}
use Rattle.trips.proofs.OneFrame.{one_frame}
use Rattle.trips.proofs.ReadWritable.{read_unrefused}
use Rattle.relay.specs.Relaying.{fields_with, fields_for, relay_refusal_of, Relays}

-- an accepted answer's header and table are the frame's, so the fields put together of them are
pub got_fields : (f : List ℕ) (r : Reading) → Reads f r → (h : Header) → r.answer ≡ Ok h → fields_with h r.table ≡ fields_for f
unfolding fields_for
got_fields f r reads h e = ap₂ fields_with (got_header f r reads h e) (got_table f r reads h e)

module _ (f : List ℕ) (z : refusal_of f ≡ 0) where
  a : Acceptable f
  a = acceptable f z

  pub entries_for : entries_of (fields_for f) ≡ streams_of f
  unfolding fields_for header_for table_by
  entries_for = take_at (streams_of f) (replicate (64 - length (streams_of f)) no_stream) (nst_of f) (streams_length f (nst_of f))

  fl_for : fl_in (fields_for f) ≡ fl_of f
  unfolding fl_in fields_for header_for
  fl_for =
      ap (λ (n : ℕ). fl_by (nst_of f) (ficl_by n (mid_of f)) (stl_total (entries_of (fields_for f)))) (digit_of (ficf_of f) (ficf_lt f))
      ∙ ap (λ (ss : List Stream). fl_by (nst_of f) (ficl_of f) (stl_total ss)) entries_for
      ∙ sym a.formula

  values_for_lem : values_in (fields_for f) ≡ returning_of f
  unfolding values_in fields_for header_for
  values_for_lem =
      let h = header_for f in
      ap
      (λ (n : ℕ). h.level ∷ digit h.fsync1 ∷ h.fct ∷ digit h.ficf ∷ h.nst ∷ h.fp ∷ h.mid ∷ n ∷ h.mnsc ∷ h.rfu ∷ h.rfa ∷ timestamp_values h.timestamp)
      fl_for
      ∙ returning_values_lem f a

  relayed : (o : ℕ) → relay_refusal_of f o ≡ first ((1 when not (eqb o 6144)) ∷ [])
  unfolding relay_refusal_of
  relayed o = first_zero (rules_of f) ((1 when not (eqb o 6144)) ∷ []) (nothing f z)

  -- writing refuses none of the fields: what is left to refuse is the output's length
  pub number_for : (o : ℕ) → writing_refusal_of (fields_for f) (length (main_of f)) o ≡ relay_refusal_of f o
  unfolding writing_refusal_of
  number_for o = go (eqb o 6144) refl
    where
      go : (b : Bool) → eqb o 6144 ≡ b → writing_refusal_of (fields_for f) (length (main_of f)) o ≡ relay_refusal_of f o
      go true e =
          let r : first ((1 when not (eqb o 6144)) ∷ []) ≡ 0 = rw e in
          ap (writing_refusal_of (fields_for f) (length (main_of f))) (eqb-true o 6144 e)
          ∙ read_unrefused f z (fields_for f) (sym values_for_lem) (sym entries_for)
          ∙ sym (relayed o ∙ r)
      go false e =
          let r : first ((1 when not (eqb o 6144)) ∷ []) ≡ 1 = rw e in
          let w : writing_refusal_of (fields_for f) (length (main_of f)) o ≡ 1 = rw e in
          w ∙ sym (relayed o ∙ r)

  -- a clean frame comes out as it went in
  pub same_for : Bytes f → Clean f → frame_in (fields_for f) (main_of f) ≡ f
  same_for b c = one_frame f z b c (fields_for f) (main_of f) (sym values_for_lem) (sym entries_for) refl

-- the part that is handed on is the main stream
pub main_for_lem : (s r : Bor (List ℕ)) → refusal_of s.now ≡ 0 → PartAt s (main_part s.now) r → r.now ≡ main_of s.now
unfolding main_part
main_for_lem s r z p =
    let f = s.now in
    let q = subst (λ (k : Span). PartAt s k r) (sym (granted_given (refusal_of f) (refusal_of f) (main_span f) refl z)) p in
    q.bytes

-- what writing answers of the fields that reading handed out is what relaying answers
pub relays : (f : List ℕ) → refusal_of f ≡ 0 → Bytes f → (x : Fields) (m was left : List ℕ) (r : ℕ) → x ≡ fields_for f → m ≡ main_of f → Writes x m was left r → Relays f was left r
unfolding written_of
relays f z b x m was left r p q v =
    let w =
    subst (λ (k : List ℕ). Writes (fields_for f) k was left r) q (subst (λ (y : Fields). Writes y m was left r) p v) in
    let n = number_for f z (length was) in
    let y : (r ≡ 0) → written_of (fields_for f) (main_of f) was ≡ frame_in (fields_for f) (main_of f) =
    λ e. rw (eq-eqb (writing_refusal_of (fields_for f) (length (main_of f)) (length was)) 0 (sym w.number ∙ e)) in
    record { number = w.number ∙ n; output = w.output ∙ (rw n); same = λ e c. w.output ∙ y e ∙ same_for f z b c }

-- refused by reading, nothing is written
pub relay_refused : (f : List ℕ) (was : List ℕ) (n : ℕ) → n ≡ refusal_of f → (n ≡ 0 → ⊥) → Relays f was was n
unfolding refusal_of relay_refusal_of
relay_refused f was n e h =
    let p : n ≡ relay_refusal_of f (length was) =
    e ∙ sym (first_found (rules_of f) ((1 when not (eqb (length was) 6144)) ∷ []) (λ z. h (e ∙ z))) in
    record {
      number = p;
      output = rw (ne_eqb (relay_refusal_of f (length was)) 0 (λ z. h (p ∙ z)));
      same = λ z c. absurd (h z);
    }
