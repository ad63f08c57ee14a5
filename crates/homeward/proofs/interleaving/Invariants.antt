-- `homeward::interleaving` meets its contract.
-- Assumes nothing.
use Prim.Native.Nat.{◌*◌}
use lib.ListN.{get_or}
use Rattle.array.specs.OutputArray.{sent}
use Rattle.array.proofs.Filling.{Filled}
use Rattle.homeward.proofs.interleaving.Given as goal

abbrev pub invariant-loop-line : goal.invariant-loop-line
invariant-loop-line l = Filled (λ p. get_or l.output (sent p) 0) 0 5760 l.array (15 * l.line)
