-- `homeward::put_each` meets its contract.
-- Assumes nothing.
use Prim.Native.Nat.{◌+◌, ◌*◌}
use lib.ListN.{get_or}
use Rattle.array.proofs.Filling.{Filled}
use Rattle.homeward.proofs.put_each.Given as goal

abbrev pub invariant-loop-m : goal.invariant-loop-m
invariant-loop-m l = Filled (λ k. get_or l.x (l.first + l.step * k) 0) 0 l.n l.to-items l.m
