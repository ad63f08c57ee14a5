use Rattle.controller.proofs.Telling.{told_refused, told_given}
use Rattle.living.proofs.LiveStored.{waiting_left, live_left, lock_wide, more_wide, both_fit}
use mathlib.Core.Path.{refl, sym, ap, ◌∙◌}
use native.Mathlib.Omega.{arith}
use lib.Dec.{eqb}
use Rattle.live.specs.Live.{live_at}
use Rattle.living.specs.LiveBytes.{held_by}
use borrow.Author.Rules.{rules}
use Rattle.living.proofs.spindlewren_live.Goals as goal

pub returns-then-walk-gt1 : goal.returns-then-walk-gt1
returns-then-walk-gt1 c =
    rw c.number-then-walk-gt1.ensures.0 (told_refused 23 _ _ _ (search rules) 12 (lock_wide _ _ c.if-walk-gt1.true) (λ z. omega arith))

pub returns-then-more-gt1 : goal.returns-then-more-gt1
returns-then-more-gt1 c =
    rw c.number-then-more-gt1.ensures.0 (told_refused 23 _ _ _ (search rules) 12 (more_wide _ _ c.if-walk-gt1.false c.if-more-gt1.true) (λ z. omega arith))

pub returns-then-waits : goal.returns-then-waits
returns-then-waits c =
    let window = c.args.window.now in
    let fit = both_fit _ _ c.if-walk-gt1.false c.if-more-gt1.false in
    told_given 23 _ _ _ (search rules) 0 fit refl _
    (waiting_left _ _ _ (search rules) c.put_live.ensures
    ∙ ap held_by (sym (c.waits.ensures c.if-waits.true window refl) ∙ ap (live_at window (eqb c.args.more 1)) c.state_in-state.ensures))

pub returns : goal.returns
returns c =
    told_given 23 _ _ _ (search rules) 0 (both_fit _ _ c.if-walk-gt1.false c.if-more-gt1.false) refl _
    (live_left _ _ _ _ (search rules) c.put_live-2.ensures ∙ ap held_by (c.step-step.ensures ∙ ap (live_at c.args.window.now (eqb c.args.more 1)) c.state_in-state.ensures))
