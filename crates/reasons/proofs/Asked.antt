-- What the export answers, refused and not.
-- Assumes nothing.
use mathlib.Core.Bool.{true}
use mathlib.Core.List.{List, [], ◌∷◌, ◌++◌}
use mathlib.Core.Path.{◌≡◌, refl, sym, ap, ◌∙◌}
use Prim.Native.Nat.{ℕ, zero, suc, ◌/◌, ◌%◌, ◌<◌}
use native.Mathlib.Omega.{arith}
use lib.ListN.{length}
use borrow.Author.Tests.{eq-eqb, ne_eqb}
use Rattle.octets.specs.Words.{split, bytes8}
use Rattle.octets.specs.Stores.{put}
use Rattle.octets.proofs.Storing.{put_chain, put_all, alone}
use Rattle.std.specs.Prelude.{Ok, Err}
use Rattle.refusals.specs.declared.Refusal.{Refusal}
use Rattle.refusals.specs.Refusals.{refusal_number}
use Rattle.refusals.proofs.Numbers.{above_zero}
use Rattle.walk.specs.Walk.{begin}
use Rattle.walk.specs.Records.{judged, allowed, limit_refusal_of}
use Rattle.walk.proofs.Limits.{number_allowed, number_outside}
use Rattle.why.specs.declared.Reason.{Reason}
use Rattle.why.specs.Why.{reason_number, refusal_given, place_given, why_refusal_of, Answers}
use Rattle.why.proofs.AnswersFixed.{because_is, refusing_is}
use Rattle.why.proofs.Reasons.{only_reason, positive}
use Rattle.reasons.specs.WhyBytes.{why_bytes, why_lent_refusal, Asks}

pub reason_stored : (x : Reason) (l a b : List ℕ) (number refusal place : ℕ) → length l ≡ 10
    → number < 256 → refusal < 256 → (number ≡ reason_number x) × (refusal ≡ refusal_given x) × (place ≡ place_given x)
    → a ≡ put l 0 (number ∷ refusal ∷ []) → b ≡ put a 2 (split bytes8 place) → b ≡ why_bytes x
unfolding why_bytes
reason_stored x l a b number refusal place o n r (en, er, ep) pa pb =
    let first : number ≡ reason_number x / 1 % 256 = en ∙ sym (alone (reason_number x) (rw (← en) n)) in
    let second : refusal ≡ refusal_given x / 1 % 256 = er ∙ sym (alone (refusal_given x) (rw (← er) r)) in
    put_chain l a b 0 2 (number ∷ refusal ∷ []) (split bytes8 place) pa pb refl (omega arith)
    ∙ put_all l ((number ∷ refusal ∷ []) ++ split bytes8 place) (sym o)
    ∙ (λ i. first i ∷ second i ∷ split bytes8 (ep i))

-- ---- the outcomes of the export
module _ (bytes : List ℕ) (limit place : ℕ) (was : List ℕ) (k : ℕ) (e : k ≡ limit_refusal_of limit) where
  pub limit_refused : (k ≡ 0 → ⊥) → Asks bytes limit place was was k
  unfolding why_lent_refusal limit_refusal_of
  limit_refused f =
      let y = number_outside limit (λ z. f (e ∙ z)) in
      record { number = e ∙ (rw y); given = λ z. absurd (f z); refused = λ g. refl }

  module _ (z : k ≡ 0) where
    ok : allowed limit ≡ true
    ok = number_allowed limit (sym e ∙ z)

    pub length-refused : (length was ≡ 10 → ⊥) → Asks bytes limit place was was 1
    unfolding why_lent_refusal
    length-refused h = record { number = rw (ok, ne_eqb (length was) 10 h); given = λ q. absurd (omega arith); refused = λ g. refl }

    module _ (whole : length was ≡ 10) where
      same : why_refusal_of bytes limit place ≡ why_lent_refusal bytes limit place (length was)
      unfolding why_refusal_of why_lent_refusal
      same = rw (ok, eq-eqb (length was) 10 whole)

      pub asks_refused : (n : Refusal) → Answers bytes limit place (Err n) → Asks bytes limit place was was (refusal_number n)
      asks_refused n a =
          record { number = refusing_is bytes limit place n a ∙ same; given = λ y. absurd (above_zero n y); refused = λ g. refl }

      pub asks_given : (x : Reason) → Answers bytes limit place (Ok x) → (left : List ℕ) → left ≡ why_bytes x → Asks bytes limit place was left 0
      asks_given x a left p =
          let b = because_is bytes limit place x a in
          record { number = sym b.0 ∙ same; given = λ y. record { reason = x; applies = b.1; answer = p }; refused = λ g. absurd (g refl) }

-- ONE OUTCOME: two results that meet the statement are equal, number and bytes
module _ (bytes : List ℕ) (limit place : ℕ) (was : List ℕ) where
  pub asks_fixed : (left other : List ℕ) (r n : ℕ) → Asks bytes limit place was left r → Asks bytes limit place was other n → (r ≡ n) × (left ≡ other)
  asks_fixed left other r n a b = (e, by r refl)
    where
      e : r ≡ n
      e = a.number ∙ sym b.number

      by : (k : ℕ) → r ≡ k → left ≡ other
      by zero z =
          let g = a.given z in
          let h = b.given (sym e ∙ z) in
          g.answer ∙ ap why_bytes (only_reason (judged limit bytes) (positive bytes limit place) place begin g.reason h.reason g.applies h.applies) ∙ sym h.answer
      by (suc k) z = a.refused (λ y. omega arith) ∙ sym (b.refused (λ y. omega arith))
