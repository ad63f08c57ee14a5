-- `octets::row` meets its contract. The loop's invariant: the bytes before k are those from the place on.
use Rattle.std.proofs.Common.{◌≡◌, ℕ, ◌+◌, ◌<◌, get_or, length}
use Rattle.octets.proofs.row.Given as goal

abbrev pub invariant-loop-k : goal.invariant-loop-k
invariant-loop-k g l = (length l.b-items ≡ g.row.N) × ((k : ℕ) → k < l.k → get_or l.b-items k 0 ≡ get_or l.bytes (l.at + k) 0)
