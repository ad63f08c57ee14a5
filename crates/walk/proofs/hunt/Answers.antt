use borrow.Author.Rules.{rules}
use mathlib.Core.Logic.{inl}
use mathlib.Core.Path.{sym, ◌∙◌}
use Rattle.walk.proofs.Stepping.{over_done, hunt_confirmed, confirmed_accepted, unconfirmed_passed, past}
use Rattle.walk.proofs.hunt.Goals as goal

pub loop-from-init : goal.loop-from-init
loop-from-init c = past _ c.next_mark-p.ensures

pub frame_step-requires : goal.frame_step-requires
frame_step-requires c = (search rules, confirmed_accepted 3 _ _ (sym (c.confirms.ensures 3) ∙ c.if-confirms.true))

pub returns-then-confirms : goal.returns-then-confirms
returns-then-confirms c = λ limit.
    c.frame_step.ensures
    ∙ hunt_confirmed limit _ _ _ (search rules) (sym (c.confirms.ensures limit) ∙ c.if-confirms.true)
    ∙ sym (c.loop-from.invariant limit _)

pub loop-from-preserved : goal.loop-from-preserved
loop-from-preserved c = λ limit k.
    c.loop-from.invariant limit k
    ∙ unconfirmed_passed _ _ (search rules) (λ l. sym (c.confirms.ensures l) ∙ c.if-confirms.false) limit k
    ∙ past _ c.next_mark-p-in-loop-from.ensures limit k

pub returns : goal.returns
returns c = λ limit.
    c.done.ensures c.args.bytes.now ∙ over_done limit _ _ (inl (search rules)) _ c.hunting.ensures ∙ sym (c.loop-from.invariant limit _)
