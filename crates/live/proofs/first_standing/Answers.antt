use borrow.Author.Rules.{rules}
use mathlib.Core.Path.{refl, sym, ◌∙◌}
use Rattle.walk.proofs.Numbered.{ok_number, err_number}
use Rattle.periods.proofs.Passing.{one_passed, then_passed}
use Rattle.live.proofs.LiveParts.{first_here, first_end}
use Rattle.live.proofs.first_standing.Goals as goal

pub returns-then-is_ok : goal.returns-then-is_ok
returns-then-is_ok c =
    first_here _ _ _ c.loop-from.invariant (search rules) (sym c.judge_at.ensures ∙ ok_number c.judge_at.result (search rules))

pub loop-from-preserved : goal.loop-from-preserved
loop-from-preserved c =
    then_passed _ c.loop-from.invariant
    (then_passed _ (one_passed _ refl (search rules) (λ z. err_number c.judge_at.result (search rules) (c.judge_at.ensures ∙ z))) c.next_mark-p-in-loop-from.ensures)

pub returns : goal.returns
returns c = first_end _ _ _ c.loop-from.invariant (search rules)
