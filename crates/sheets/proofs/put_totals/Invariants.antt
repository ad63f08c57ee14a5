use Rattle.std.proofs.Common.{◌≡◌, take}
use Rattle.octets.specs.Stores.{put, bytes_of_each}
use Rattle.octets.specs.Words.{split, bytes8}
use Rattle.sheets.proofs.put_totals.Given as goal

abbrev pub invariant-loop-i : goal.invariant-loop-i
invariant-loop-i l = l.out ≡ put l.initial.out 0 (bytes_of_each (split bytes8) (take l.i l.fn.totals))
