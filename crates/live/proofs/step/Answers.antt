use mathlib.Core.Path.{sym, ap, ◌∙◌}
use native.Mathlib.Omega.{arith}
use Prim.Native.Nat.{◌+◌, ◌≤◌}
use lib.ListN.{length}
use Rattle.walk.specs.Records.{step_at}
use Rattle.live.specs.Live.{far}
use Rattle.live.proofs.LiveParts.{wants_now, live_now, far_step, fits, end_step}
use Rattle.live.proofs.step.Goals as goal
use Rattle.live.proofs.step.Goals.{then-n-ge-FAR-via-then-n-ge-FAR, then-n-ge-FAR-via-else-n-ge-FAR+then-place-n}

pub returns-then-n-ge-FAR : goal.returns-then-n-ge-FAR
returns-then-n-ge-FAR c =
    let l : far ≤ c.args.walk.position.place + length c.args.window.now =
    elim c.then-n-ge-FAR.branch [ then-n-ge-FAR-via-then-n-ge-FAR w ↦ omega arith | then-n-ge-FAR-via-else-n-ge-FAR+then-place-n w ↦ omega arith ] in
    c.over.ensures ∙ far_step _ _ _ l

pub telling-requires : goal.telling-requires
telling-requires c =
    fits _ _ (omega arith) 0 (omega arith) _ (c.step.ensures ∙ ap (step_at c.args.window.now) c.placed.ensures)

pub returns-then-not-goes_on : goal.returns-then-not-goes_on
returns-then-not-goes_on c =
    c.telling.ensures
    ∙ end_step _ _ (omega arith) _ (sym c.goes_on.ensures ∙ c.if-not-goes_on.true) _ (c.step.ensures ∙ ap (step_at c.args.window.now) c.placed.ensures)

pub in_lock-requires : goal.in_lock-requires
in_lock-requires c = record { near = omega arith; wanted = wants_now _ _ _ _ (sym c.goes_on.ensures ∙ c.if-not-goes_on.false); locked = c.if-walk.true }

pub returns-then-walk : goal.returns-then-walk
returns-then-walk c = c.in_lock.ensures ∙ live_now _ _ _ (sym c.goes_on.ensures ∙ c.if-not-goes_on.false)

pub hunting-requires : goal.hunting-requires
hunting-requires c = record { near = omega arith; wanted = wants_now _ _ _ _ (sym c.goes_on.ensures ∙ c.if-not-goes_on.false); hunting = c.if-walk.false }

pub returns-else-walk : goal.returns-else-walk
returns-else-walk c = c.hunting.ensures ∙ live_now _ _ _ (sym c.goes_on.ensures ∙ c.if-not-goes_on.false)
