-- `outward::interleaving` meets its contract.
-- Assumes nothing.
use Prim.Native.Nat.{◌*◌}
use borrow.Author.Rules.{rules}
use Rattle.array.proofs.Filling.{filled_all}
use Rattle.outward.specs.OutClauses.{interleaving_by}
use Rattle.outward.proofs.interleaving.Goals as goal

pub returns : goal.returns
unfolding interleaving_by
returns c = filled_all _ 0 _ _ (8 * c.loop-u.u) c.loop-u.invariant (search rules)
