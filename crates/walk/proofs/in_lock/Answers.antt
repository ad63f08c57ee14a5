use borrow.Author.Rules.{rules}
use mathlib.Core.Path.{refl, sym, ap, ◌∙◌}
use native.Mathlib.Omega.{arith}
use mathlib.Core.Logic.{inl, inr}
use Rattle.refusals.specs.Refusals.{refusal_number}
use Rattle.walk.specs.Walk.{locked}
use Rattle.walk.specs.StepClauses.{Spent}
use Rattle.walk.proofs.Stepping.{over_done, idle_bare, lock_stands, lock_null}
use Rattle.walk.proofs.in_lock.Goals as goal
use Rattle.walk.proofs.in_lock.Goals.{then-misses-limit-via-then-misses-limit, then-misses-limit-via-else-misses-limit+then-not-whole}

pub returns-then-misses-limit : goal.returns-then-misses-limit
returns-then-misses-limit c =
    let spent : Spent c.args.limit c.args.bytes.now (locked c.args.p c.args.misses) =
    elim c.then-misses-limit.branch [
      | then-misses-limit-via-then-misses-limit w ↦ inr (refl, omega arith)
      | then-misses-limit-via-else-misses-limit+then-not-whole w ↦ inl (w.whole.ensures.1 w.if-not-whole.true)
    ] in
    c.done.ensures c.args.bytes.now ∙ over_done _ _ _ spent _ c.locked.ensures

pub returns-in-Ok : goal.returns-in-Ok
returns-in-Ok c = c.frame_step.ensures ∙ lock_stands _ c.args.bytes.now _ _ (search rules) (omega arith) (sym c.in-Ok.ensures)

pub returns-in-Err-Null : goal.returns-in-Err-Null
returns-in-Err-Null c =
    c.no_frame.ensures
    ∙ idle_bare c.args.bytes.now _ _
    ∙ lock_null _ c.args.bytes.now _ _ (search rules) (omega arith) (sym c.in-Err-Null.ensures ∙ ap refusal_number c.in-Err-Null.field-0-is) _ c.locked-in-Err-Null.ensures
