use native.Mathlib.Omega.{arith}
use Rattle.why.proofs.Asking.{ends_hunted, ends_at, goes_on, goes_further}
use Rattle.why.proofs.reason_at.Goals as goal

pub returns-in-Hunted : goal.returns-in-Hunted
returns-in-Hunted c =
    ends_hunted _ _ _ _ c.loop-reason.invariant c.step-step.result c.step-step.ensures _ c.seek-found.ensures _ c.hunted.ensures c.in-Hunted.is

pub returns-in-At : goal.returns-in-At
returns-in-At c =
    ends_at _ _ _ _ c.loop-reason.invariant c.step-step.result c.step-step.ensures _ c.seek-found.ensures _ c.in-At.is

pub loop-reason-smaller : goal.loop-reason-smaller
loop-reason-smaller c =
    let further = goes_further _ _ _ _ c.loop-reason.invariant c.step-step.result c.step-step.ensures _ c.seek-found.ensures c.in-Later.is in
    let near = c.loop-reason.invariant.near in
    omega arith

pub loop-reason-preserved : goal.loop-reason-preserved
loop-reason-preserved c =
    goes_on _ _ _ _ c.loop-reason.invariant c.step-step.result c.step-step.ensures _ c.seek-found.ensures c.in-Later.is
