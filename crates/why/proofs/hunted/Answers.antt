use borrow.Author.Rules.{rules}
use mathlib.Core.Path.{sym, ◌∙◌}
use Rattle.walk.proofs.Numbered.{ok_number, err_number}
use Rattle.why.proofs.Asking.{hunted_refused, hunted_alone, hunted_same}
use Rattle.why.proofs.hunted.Goals as goal

pub returns-in-Err : goal.returns-in-Err
returns-in-Err c = hunted_refused _ _ _ _ c.in-Err.ensures

pub returns-then-is_ok : goal.returns-then-is_ok
returns-then-is_ok c =
    hunted_same _ _ _ (sym c.in_default.ensures) (sym c.judge_at-2.ensures ∙ ok_number c.judge_at-2.result (search rules))

pub returns-else-is_ok : goal.returns-else-is_ok
returns-else-is_ok c =
    hunted_alone _ _ _ (sym c.in_default.ensures) (λ z. err_number c.judge_at-2.result (search rules) (c.judge_at-2.ensures ∙ z))
