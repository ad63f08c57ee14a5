-- `profile::marked` meets its contract.
-- Assumes nothing.
use lib.ListN.{length}
use mathlib.Core.List.{List}
use mathlib.Core.Path.{◌≡◌}
use Prim.Native.Nat.{ℕ}
use Rattle.profile.specs.ProfileClauses.{laid_to, Tallied}
use Rattle.profile.proofs.marked.Given as goal

abbrev pub invariant-loop-high : goal.invariant-loop-high
invariant-loop-high l = (length l.marks ≡ 64) × ((lows : List ℕ) → Tallied l.marks l.high-index (laid_to l.highs lows l.high-index))
