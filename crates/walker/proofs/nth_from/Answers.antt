use mathlib.Core.Path.{sym, ap, ◌∙◌}
use mathlib.Core.List.{List}
use Prim.Native.Nat.{ℕ, ◌-◌, ◌≤◌}
use native.Mathlib.Omega.{arith}
use Rattle.walk.specs.declared.Step.{Step}
use Rattle.walk.specs.Records.{step_at, state_after}
use Rattle.walker.specs.declared.Advanced.{Advanced}
use Rattle.walker.proofs.Turns.{arrived, some_left, one_on}
use Rattle.walker.proofs.nth_from.Goals as goal

-- the step that an advanced walk comes of
abbrev taken : Advanced → Step
taken r = record { item = r.item; table = r.table; walk = r.walk.state }

pub returns-then-ends : goal.returns-then-ends
returns-then-ends c =
    let bytes = c.args.«record».now in
    let t = c.loop-a.w.state in
    let e = ap taken c.step-a.ensures.0 ∙ ap (λ (b : List ℕ). step_at b t) c.loop-a.invariant.0 in
    e
    ∙ arrived bytes c.loop-a.left t _ (sym (ap (λ (x : Step). x.item) e)) (sym c.ends.ensures ∙ c.if-ends.true)
    ∙ ap (step_at bytes) c.loop-a.invariant.1

pub overflow_sub-left : goal.overflow_sub-left
overflow_sub-left c = some_left c.loop-a.left _ (sym c.ends.ensures ∙ c.if-ends.false)

pub loop-a-smaller : goal.loop-a-smaller
loop-a-smaller c = let h : 1 ≤ c.loop-a.left = some_left c.loop-a.left _ (sym c.ends.ensures ∙ c.if-ends.false) in omega arith

pub loop-a-preserved : goal.loop-a-preserved
loop-a-preserved c =
    let bytes = c.args.«record».now in
    let t = c.loop-a.w.state in
    let h : 1 ≤ c.loop-a.left = some_left c.loop-a.left _ (sym c.ends.ensures ∙ c.if-ends.false) in
    let e = ap taken c.step-a.ensures.0 ∙ ap (λ (b : List ℕ). step_at b t) c.loop-a.invariant.0 in (
      ap (λ (r : Advanced). r.walk.«record».now) c.step-a.ensures.0 ∙ c.loop-a.invariant.0,
      ap (λ (x : Step). state_after bytes (c.loop-a.left - 1) x.walk) e ∙ sym (one_on bytes c.loop-a.left t h) ∙ c.loop-a.invariant.1,
    )
