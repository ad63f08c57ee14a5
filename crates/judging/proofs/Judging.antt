-- The judge's two parts together are the one table of rules.
-- Assumes nothing.
use mathlib.Core.List.{List, ◌++◌}
use mathlib.Core.Path.{◌≡◌, sym, ◌∙◌}
use Prim.Native.Nat.{ℕ}
use borrow.Author.Tests.{eq-eqb}
use lib.ListN.{length}
use Rattle.frame.specs.Rules.{first, refusal_of}
use Rattle.frame.proofs.FirstRule.{none_hold, first_zero, first_found}
use Rattle.judging.specs.JudgeClauses.{head_rules_of, body_rules_of}

module _ (f : List ℕ) (whole : length f ≡ 6144) where
  parts : refusal_of f ≡ first (head_rules_of f ++ body_rules_of f)
  unfolding refusal_of
  parts = rw (eq-eqb (length f) 6144 whole)

  pub head_judges : (n : ℕ) → n ≡ first (head_rules_of f) → (n ≡ 0 → ⊥) → n ≡ refusal_of f
  head_judges n e h = e ∙ sym (first_found (head_rules_of f) (body_rules_of f) (λ z. h (e ∙ z))) ∙ sym parts

  pub body_judges : (n m : ℕ) → n ≡ first (head_rules_of f) → n ≡ 0 → m ≡ first (body_rules_of f) → m ≡ refusal_of f
  body_judges n m e h d =
      d ∙ sym (first_zero (head_rules_of f) (body_rules_of f) (none_hold (head_rules_of f) (tt, (tt, (tt, (tt, tt)))) (sym e ∙ h))) ∙ sym parts
