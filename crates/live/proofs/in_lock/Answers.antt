use mathlib.Core.Path.{ap, ◌∙◌}
use native.Mathlib.Omega.{arith}
use Rattle.walk.specs.Records.{step_at}
use Rattle.live.proofs.LiveParts.{fits, lock_waits, lock_tells}
use Rattle.live.proofs.in_lock.Goals as goal

pub returns-then-window-lt6144 : goal.returns-then-window-lt6144
returns-then-window-lt6144 c = c.waiting.ensures ∙ lock_waits _ _ c.requires (omega arith)

pub telling-requires : goal.telling-requires
telling-requires c =
    fits _ _ c.requires.near 0 (omega arith) _ (c.step.ensures ∙ ap (step_at c.args.window.now) c.placed.ensures)

pub returns : goal.returns
returns c =
    c.telling.ensures ∙ lock_tells _ _ c.requires (omega arith) _ (c.step.ensures ∙ ap (step_at c.args.window.now) c.placed.ensures)
