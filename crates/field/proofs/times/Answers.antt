-- `field::times` meets its contract.
-- Assumes nothing.
use mathlib.Core.Path.{refl}
use borrow.Author.Rules.{rules}
use Rattle.field.specs.Field.{times_to}
use Rattle.field.proofs.FieldTurns.{turn, finished}
use Rattle.field.proofs.times.Goals as goal

pub loop-k-init : goal.loop-k-init
unfolding times_to
loop-k-init c = refl

pub loop-k-preserved : goal.loop-k-preserved
loop-k-preserved c =
    turn c.args.a c.args.b c.loop-k.k _ _ _ (search rules) (search rules) (search rules) c.loop-k.invariant c.twice.ensures c.part.ensures

pub returns : goal.returns
returns c = finished _ _ c.loop-k.k _ (search rules) c.loop-k.invariant
