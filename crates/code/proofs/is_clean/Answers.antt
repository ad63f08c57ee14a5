use mathlib.Core.Path.{sym, ◌∙◌}
use Prim.Native.Nat.{◌+◌}
use native.Mathlib.Omega.{arith}
use borrow.Author.Tests.{eq-eqb, ne_eqb}
use Rattle.code.specs.Code.{root}
use Rattle.code.proofs.CodeTurns.{test_more, not_clean}
use Rattle.code.proofs.is_clean.Goals as goal

pub returns-then-value_at-ne0 : goal.returns-then-value_at-ne0
unfolding root
returns-then-value_at-ne0 c =
    sym (not_clean (c.loop-i.i + 1) c.args.n c.args.row.now (omega arith) (sym (test_more _ _ c.loop-i.i _ c.loop-i.invariant c.power.ensures c.value_at.ensures) ∙ ne_eqb _ 0 c.if-value_at-ne0.true))

pub loop-i-preserved : goal.loop-i-preserved
unfolding root
loop-i-preserved c = sym (test_more _ _ c.loop-i.i _ c.loop-i.invariant c.power.ensures c.value_at.ensures) ∙ eq-eqb _ 0 c.if-value_at-ne0.false
