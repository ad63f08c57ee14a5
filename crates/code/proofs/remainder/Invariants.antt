use mathlib.Core.Path.{◌≡◌}
use mathlib.Core.List.{List}
use Prim.Native.Nat.{ℕ}
use lib.ListN.{length, take, replicate}
use Rattle.std.specs.Int.{bytes_high_first}
use Rattle.code.specs.Code.{remainder}
use Rattle.code.specs.CodeClauses.{Multiplies}
use Rattle.code.proofs.remainder.Given as goal

abbrev pub invariant-loop-b : goal.invariant-loop-b
invariant-loop-b g l = (q : List ℕ) → length q ≡ g.row.R → Multiplies l.multiples q → bytes_high_first g.row.R l.rest ≡ remainder q (replicate g.row.R 0) (take l.b-index l.info)
