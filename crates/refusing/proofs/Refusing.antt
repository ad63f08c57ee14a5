-- The two parts of writing's judge together are its one table of rules.
-- Assumes nothing.
use mathlib.Core.Bool.{Bool, true, false}
use mathlib.Core.List.{List}
use mathlib.Core.Path.{◌≡◌, refl, sym, ap, ◌∙◌}
use Prim.Native.Nat.{ℕ, ◌≤◌, min}
use native.Mathlib.Omega.{arith}
use borrow.Author.Tests.{ltb-false, leb-true, leb-false}
use lib.Dec.{leb}
use lib.ListN.{length, take}
use lib.Seq.{take_all}
use Rattle.frame.specs.declared.Fields.{Fields}
use Rattle.frame.specs.declared.Stream.{Stream}
use Rattle.frame.specs.Rules.{first}
use Rattle.frame.specs.Writing.{wider, writing_refusal_of}
use Rattle.frame.proofs.FirstRule.{none_hold, first_zero, first_found}
use Rattle.refusing.specs.RefuseClauses.{head_rules, body_of}

-- beyond the table's end there is nothing to take
pub take_least : (t : List Stream) (count : ℕ) → length t ≡ 64 → take (min count 64) t ≡ take count t
take_least t count e = go (leb count 64) refl
  where
    go : (b : Bool) → leb count 64 ≡ b → take (min count 64) t ≡ take count t
    go true d =
        let h = leb-true count 64 d in
        let z : min count 64 ≡ count = omega arith in
        ap (λ (k : ℕ). take k t) z
    go false d =
        let h = leb-false count 64 d in
        let z : min count 64 ≡ 64 = omega arith in
        ap (λ (k : ℕ). take k t) z ∙ take_all 64 t (omega arith) ∙ sym (take_all count t (omega arith))

module _ (x : Fields) (main out n : ℕ) (w : Bool) (d : w ≡ wider x) (h : n ≡ first (head_rules out w x.count)) where
  e : n ≡ first (head_rules out (wider x) x.count)
  e = rw (← d) h

  pub head_refuses : (n ≡ 0 → ⊥) → n ≡ writing_refusal_of x main out
  unfolding writing_refusal_of
  head_refuses k = e ∙ sym (first_found (head_rules out (wider x) x.count) (body_of x main) (λ z. k (e ∙ z)))

  pub count_fits : n ≡ 0 → x.count ≤ 64
  count_fits z = ltb-false 64 x.count (none_hold (head_rules out (wider x) x.count) (tt, (tt, (tt, tt))) (sym e ∙ z)).1.1.0

  pub body_refuses : n ≡ 0 → (m : ℕ) → m ≡ first (body_of x main)
      → m ≡ writing_refusal_of x main out
  unfolding writing_refusal_of
  body_refuses z m q =
      q ∙ sym (first_zero (head_rules out (wider x) x.count) (body_of x main) (none_hold (head_rules out (wider x) x.count) (tt, (tt, (tt, tt))) (sym e ∙ z)))
