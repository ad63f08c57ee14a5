use mathlib.Core.Path.{refl, ◌∙◌}
use native.Mathlib.Omega.{arith}
use Rattle.sum.specs.Sum.{bit}
use Rattle.field.specs.Field.{twice, times_to, times, power}
use Rattle.code.specs.Code.{root, generator}
use Rattle.code.specs.CodeClauses.{five, fourteen}
use Rattle.code.specs.CodeAnswers.{check_refusal}
use Rattle.code.specs.declared.TheConstants.{FIVE, FOURTEEN}
use Rattle.code.proofs.CodeRegisters.{multiplies}
use Rattle.code.proofs.CodeTurns.{none_taken, kept, given, by_generator}
use Rattle.code.proofs.check_bytes.Goals as goal

pub returns-in_default : goal.returns-in_default
returns-in_default c = kept _ _ (none_taken _ _ (λ e f. c.in_default.is-1.1 f) (λ e f. omega (arith, c.in_default.is-0)))

pub returns-in_default-2 : goal.returns-in_default-2
returns-in_default-2 c = kept _ _ (none_taken _ _ (λ e f. omega (arith, c.in_default.is-0)) (λ e f. c.in_default.is-1.1 f))

pub returns-in_default-3 : goal.returns-in_default-3
returns-in_default-3 c = kept _ _ (none_taken _ _ (λ e f. c.in_default.is-0.0.1 e) (λ e f. c.in_default.is-0.1 e))

pub returns-in-235-eq5 : goal.returns-in-235-eq5
unfolding bit twice times_to times power root generator check_refusal
returns-in-235-eq5 c =
    given 5 _ _ _ c.in-235-eq5.is-1 (rw c.in-235-eq5.is-0 refl) (c.put_remainder.ensures five refl (multiplies FIVE five refl) ∙ by_generator 5 _ _ refl)

pub returns-in-226-eq14 : goal.returns-in-226-eq14
unfolding bit twice times_to times power root generator check_refusal
returns-in-226-eq14 c =
    given 14 _ _ _ c.in-226-eq14.is-1 (rw c.in-226-eq14.is-0 refl)
    (c.put_remainder-in-226-eq14.ensures fourteen refl (multiplies FOURTEEN fourteen refl) ∙ by_generator 14 _ _ refl)
