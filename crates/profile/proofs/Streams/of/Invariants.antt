-- `profile::Streams::of` meets its contract.
-- Assumes nothing.
use mathlib.Core.List.{List}
use Prim.Native.Nat.{◌+◌, ◌*◌, ℕ}
use Rattle.octets.specs.Words.{two_at}
use Rattle.profile.proofs.Tables.{Filled, Within}
use Rattle.profile.proofs.Streams.of.Given as goal

abbrev pub high : List ℕ → ℕ → ℕ
high f k = two_at f (8 + 4 * k)

abbrev pub low : List ℕ → ℕ → ℕ
low f k = two_at f (10 + 4 * k)

abbrev pub invariant-loop-i : goal.invariant-loop-i
invariant-loop-i l = Filled (high l.frame) l.highs l.i × Filled (low l.frame) l.lows l.i × Within (high l.frame) l.i × Within (low l.frame) l.i
