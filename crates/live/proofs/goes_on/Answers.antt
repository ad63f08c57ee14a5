use borrow.Author.Rules.{rules}
use mathlib.Core.Path.{◌∙◌}
use borrow.Author.Tests.{not-true, not-false}
use Rattle.walk.proofs.Numbered.{ok_number, err_number}
use Rattle.live.proofs.LiveParts.{wants_no, wants_outside, wants_hunting, wants_lock}
use Rattle.live.proofs.goes_on.Goals as goal
use Rattle.live.proofs.goes_on.Goals.{then-more, else-more}

pub returns-then-not-walk : goal.returns-then-not-walk
returns-then-not-walk c =
    elim c.if-more.branch [
      | then-more w ↦ wants_hunting _ _ _ _ _ w.limit_refusal.ensures w.if-more.true (ok_number w.limit_refusal.result (search rules)) (not-true _ c.if-not-walk.true)
      | else-more w ↦ absurd (search rules)
    ]

pub returns-else-not-walk : goal.returns-else-not-walk
returns-else-not-walk c =
    elim c.if-more.branch [
      | then-more w ↦ wants_lock _ _ _ _ _ w.limit_refusal.ensures w.if-more.true (ok_number w.limit_refusal.result (search rules)) (not-false _ c.if-not-walk.false)
      | else-more w ↦ absurd (search rules)
    ]

pub returns-else-is_ok : goal.returns-else-is_ok
returns-else-is_ok c =
    elim c.if-more.branch [
      | then-more w ↦ c.if-is_ok.false ∙ wants_outside _ _ _ _ _ w.limit_refusal.ensures (err_number w.limit_refusal.result (search rules))
      | else-more w ↦ c.if-is_ok.false ∙ wants_no _ _ _ _ w.if-more.false
    ]
