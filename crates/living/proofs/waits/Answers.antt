use borrow.Author.Rules.{rules}
use borrow.Author.Tests.{ltb-true, not-true, not-false}
use mathlib.Core.Path.{sym, ◌∙◌}
use Prim.Native.Nat.{◌<◌, ◌-◌}
use native.Mathlib.Omega.{arith}
use Rattle.live.specs.Live.{far}
use Rattle.living.proofs.LiveStored.{hunting_waits, locked_waits}
use Rattle.living.proofs.waits.Goals as goal
use Rattle.living.proofs.waits.Goals.{then-n-lt12288, else-n-lt12288, then-state-n, else-state-n}

pub returns-then-not-state : goal.returns-then-not-state
returns-then-not-state c = λ e w whole.
    elim c.if-state-n.branch [
      | then-state-n v ↦ elim c.if-n-lt12288.branch [
        | then-n-lt12288 u ↦
            let near : c.args.state.position.place < far - c.args.n = ltb-true _ _ (sym u.value-is ∙ v.if-state-n.true) in
            hunting_waits _ _ _ (omega arith) (sym v.goes_on.ensures ∙ sym v.value-is ∙ c.if-goes_on.true) w whole (not-true _ e) u.if-n-lt12288.true
        | else-n-lt12288 u ↦ absurd (search rules)
      ]
      | else-state-n v ↦ absurd (search rules)
    ]

pub returns-else-not-state : goal.returns-else-not-state
returns-else-not-state c = λ e w whole.
    elim c.if-state-n.branch [
      | then-state-n v ↦ elim c.if-n-lt12288.branch [
        | then-n-lt12288 u ↦
            let near : c.args.state.position.place < far - c.args.n = ltb-true _ _ (sym u.value-is ∙ v.if-state-n.true) in
            locked_waits _ _ _ (omega arith) (sym v.goes_on.ensures ∙ sym v.value-is ∙ c.if-goes_on.true) w whole (not-false _ c.if-not-state.false) (ltb-true _ _ e)
        | else-n-lt12288 u ↦ absurd (search rules)
      ]
      | else-state-n v ↦ absurd (search rules)
    ]
