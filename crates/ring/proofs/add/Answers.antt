-- `ring::add` meets its contract. The loop's invariant: as many bytes as were passed are added.
-- Assumes nothing.
use mathlib.Core.Path.{sym}
use borrow.Author.Rules.{rules}
use Rattle.ring.proofs.Lists.{xors_nil, add-more}
use Rattle.ring.proofs.add.Goals as goal

pub loop-k-init : goal.loop-k-init
loop-k-init c = sym (xors_nil c.args.w.now)

pub loop-k-preserved : goal.loop-k-preserved
loop-k-preserved c = let at = c.loop-k in add-more c.args.w.now c.args.bytes.now at.w at.k at.invariant (search rules) (search rules)
