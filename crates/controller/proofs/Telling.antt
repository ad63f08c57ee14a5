-- What the export answers, refused and not.
-- Assumes nothing.
use mathlib.Core.List.{List, ◌++◌}
use mathlib.Core.Path.{◌≡◌, refl, sym, ap, ap₂, ◌∙◌}
use Prim.Native.Nat.{ℕ}
use borrow.Author.Tests.{eq-eqb, ne_eqb}
use lib.Dec.{eqb}
use lib.ListN.{length}
use Rattle.octets.specs.Choice.{pick}
use Rattle.std.specs.Prelude.{Ok, Err}
use Rattle.refusals.specs.declared.Refusal.{Refusal}
use Rattle.refusals.specs.Refusals.{refusal_number}
use Rattle.frame.specs.declared.Header.{Header}
use Rattle.frame.specs.declared.Reading.{Reading}
use Rattle.frame.specs.Rules.{refusal_of}
use Rattle.frame.specs.Answers.{header_values, fields_of, Reads}
use Rattle.frame.proofs.Accepting.{acceptable}
use Rattle.reading.proofs.Answered.{got_number, got_header, got_table, got_refused, got_nonzero}
use Rattle.frame.proofs.Headers.{header_values_lem}
use Rattle.encoded.specs.AnswerBytes.{encode, head_counts, table_bytes, answer_of}
use Rattle.controller.specs.Boundary.{lent_refusal, Told}

-- ---- the three outcomes of an export with n answer bytes
module _ (n refusal : ℕ) (bytes was : List ℕ) where
  pub wrong_length : (length was ≡ n → ⊥) → Told n refusal bytes was was 1
  wrong_length h = let y = ne_eqb (length was) n h in record { number = rw y; answer = rw y }

  module _ (whole : length was ≡ n) (r : ℕ) (e : r ≡ refusal) where
    own : lent_refusal n (length was) refusal ≡ refusal
    own = rw (eq-eqb (length was) n whole)

    pub told_refused : (r ≡ 0 → ⊥) → Told n refusal bytes was was r
    told_refused h = record { number = e ∙ sym own; answer = rw (ne_eqb (lent_refusal n (length was) refusal) 0 (λ z. h (e ∙ sym own ∙ z))) }

    pub told_given : r ≡ 0 → (left : List ℕ) → left ≡ bytes → Told n refusal bytes was left 0
    told_given z left p =
        let o = own ∙ sym e ∙ z in
        record { number = sym o; answer = p ∙ (rw (eq-eqb (lent_refusal n (length was) refusal) 0 o)) }

-- ---- reading
module _ (f was : List ℕ) (whole : length was ≡ 406) (r : Reading) (reads : Reads f r) where
  pub refused : (n : Refusal) → r.answer ≡ Err n → Told 406 (refusal_of f) (answer_of f) was was (refusal_number n)
  refused n e = told_refused 406 (refusal_of f) (answer_of f) was whole (refusal_number n) (got_refused f r reads n e) (got_nonzero f r reads n e)

  pub accepted : (h : Header) → r.answer ≡ Ok h → (left : List ℕ) → left ≡ pick (eqb (length was) 406) (encode head_counts (header_values h) ++ table_bytes r.table) was → Told 406 (refusal_of f) (answer_of f) was left 0
  unfolding answer_of
  accepted h e left p =
      let z = got_number f r reads h e in
      let v : header_values h ≡ fields_of f = ap header_values (got_header f r reads h e) ∙ header_values_lem f (acceptable f z) in
      let w = ap₂ (λ vs ts. encode head_counts vs ++ table_bytes ts) v (got_table f r reads h e) in
      told_given 406 (refusal_of f) (answer_of f) was whole 0 (sym z) refl left (p ∙ (rw (eq-eqb (length was) 406 whole)) ∙ w)
