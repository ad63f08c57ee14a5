-- What a caller knows who takes an answer apart: the frame's header and table, or its refusal number.
-- Assumes nothing.
use mathlib.Core.List.{List}
use mathlib.Core.Path.{◌≡◌, refl, sym, ap, ◌∙◌}
use Prim.Native.Nat.{ℕ}
use borrow.Author.Tests.{eq-eqb}
use Rattle.std.specs.Prelude.{Ok, Err}
use Rattle.refusals.specs.declared.Refusal.{Refusal}
use Rattle.refusals.specs.Refusals.{refusal_number}
use Rattle.refusals.proofs.Numbers.{above_zero}
use Rattle.frame.specs.declared.Header.{Header}
use Rattle.frame.specs.declared.Reading.{Reading}
use Rattle.frame.specs.Frame.{streams_of}
use Rattle.frame.specs.Rules.{refusal_of}
use Rattle.frame.specs.Answers.{number_of, values_of, header_values, table_by, Reads, header_for}
use Rattle.frame.proofs.Accepting.{acceptable}
use Rattle.frame.proofs.Fixed.{answer_fixed}
use Rattle.frame.proofs.Headers.{header_values_lem}

module _ (f : List ℕ) (r : Reading) (reads : Reads f r) where
  -- accepted: the frame is, and the header is its header
  module _ (h : Header) (e : r.answer ≡ Ok h) where
    pub got_number : refusal_of f ≡ 0
    got_number = sym reads.number ∙ ap number_of e

    pub got_header : h ≡ header_for f
    got_header =
        let y = eq-eqb (refusal_of f) 0 got_number in
        let v : header_values h ≡ header_values (header_for f) =
        sym (ap values_of e) ∙ reads.values ∙ (rw y (sym (header_values_lem f (acceptable f got_number)))) in
        let a = answer_fixed (Ok h) (Ok (header_for f)) refl v in
        cc

    pub got_table : r.table ≡ table_by (streams_of f)
    got_table = reads.table ∙ (rw (eq-eqb (refusal_of f) 0 got_number))

  -- refused: the number is the frame's, and not 0
  module _ (n : Refusal) (e : r.answer ≡ Err n) where
    pub got_refused : refusal_number n ≡ refusal_of f
    got_refused = sym (ap number_of e) ∙ reads.number

    pub got_nonzero : refusal_number n ≡ 0 → ⊥
    got_nonzero z = above_zero n z
