-- `walker::nth` meets its contract.
-- Assumes nothing.
use mathlib.Core.Path.{ap, ◌∙◌}
use Rattle.walk.specs.declared.State.{State}
use Rattle.walk.specs.declared.Step.{Step}
use Rattle.walk.specs.Records.{step_at, state_after}
use Rattle.walker.proofs.Items.{nth_item}
use Rattle.walker.proofs.nth.Goals as goal

pub returns : goal.returns
returns c =
    let args = c.args in
    let bytes = args.«record».now in
    let s = c.nth_from.ensures ∙ ap (λ (x : State). step_at bytes (state_after bytes args.n x)) c.start_of.ensures in
    ((c.limit_refusal.ensures, s), ap (λ (x : Step). x.item) s ∙ nth_item args.limit bytes args.n)
