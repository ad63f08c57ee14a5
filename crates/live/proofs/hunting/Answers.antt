use mathlib.Core.Path.{sym, ap, ◌∙◌}
use native.Mathlib.Omega.{arith}
use Rattle.walk.specs.Records.{step_at}
use Rattle.live.proofs.LiveParts.{first_inside, fits, hunt_waits, hunt_first, hunt_held, hunt_tells}
use Rattle.live.proofs.hunting.Goals as goal

pub returns-then-n-lt12288 : goal.returns-then-n-lt12288
returns-then-n-lt12288 c = c.waiting.ensures ∙ hunt_waits _ _ c.requires (omega arith)

pub waiting-requires-then-first-n : goal.waiting-requires-then-first-n
waiting-requires-then-first-n c = omega (arith, first_inside _ 0 _ c.first_standing-first.ensures (omega arith), c.requires.near)

pub returns-then-first-n : goal.returns-then-first-n
returns-then-first-n c =
    c.waiting-then-first-n.ensures ∙ hunt_first _ _ c.requires (omega arith) _ c.first_standing-first.ensures (omega arith)

pub waiting-requires-then-is_done : goal.waiting-requires-then-is_done
waiting-requires-then-is_done c =
    omega (arith, first_inside _ _ _ c.first_standing.ensures (omega arith), c.requires.near)

pub returns-then-is_done : goal.returns-then-is_done
returns-then-is_done c =
    c.waiting-then-is_done.ensures
    ∙ hunt_held _ _ c.requires _ c.first_standing-first.ensures _ (c.step-found.ensures ∙ ap (step_at c.args.window.now) c.placed.ensures) (omega arith)
    (sym c.is_done.ensures ∙ c.if-is_done.true) _ c.first_standing.ensures

pub telling-requires : goal.telling-requires
telling-requires c =
    fits _ _ c.requires.near _ (first_inside _ 0 _ c.first_standing-first.ensures (omega arith)) _ (c.step-found.ensures ∙ ap (step_at c.args.window.now) c.placed.ensures)

pub returns : goal.returns
returns c =
    c.telling.ensures
    ∙ hunt_tells _ _ c.requires _ c.first_standing-first.ensures _ (c.step-found.ensures ∙ ap (step_at c.args.window.now) c.placed.ensures) (sym c.is_done.ensures ∙ c.if-is_done.false)
