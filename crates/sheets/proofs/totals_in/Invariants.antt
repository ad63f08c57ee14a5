use Rattle.std.proofs.Common.{◌≡◌, ℕ, ◌*◌, ◌<◌, get_or, length}
use Rattle.octets.specs.Words.{eight_at}
use Rattle.sheets.proofs.totals_in.Given as goal

abbrev pub invariant-loop-i : goal.invariant-loop-i
invariant-loop-i l = (length l.total-items ≡ 16) × ((k : ℕ) → k < l.i → get_or l.total-items k 0 ≡ eight_at l.bytes (8 * k))
