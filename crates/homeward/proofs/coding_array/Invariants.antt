-- `homeward::coding_array` meets its contract.
-- Assumes nothing.
use mathlib.Core.List.{List, []}
use Prim.Native.Nat.{ℕ}
use Rattle.array.specs.Listed.{list}
use Rattle.array.proofs.Filling.{Filled}
use Rattle.homeward.specs.BackClauses.{cell}
use Rattle.homeward.proofs.coding_array.Given as goal

-- row i, from the interleaving array
abbrev pub row_of : List ℕ → ℕ → List ℕ
row_of x i = list (cell x i) 240

abbrev pub invariant-loop-i : goal.invariant-loop-i
invariant-loop-i l = Filled (row_of l.array) [] 24 l.row-items l.i
