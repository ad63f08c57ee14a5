use mathlib.Core.Path.{◌≡◌}
use lib.ListN.{length, take}
use Rattle.octets.specs.Stores.{put}
use Rattle.encoded.specs.AnswerBytes.{table_bytes}
use Rattle.encoded.proofs.put_table.Given as goal

abbrev pub invariant-loop-i : goal.invariant-loop-i
invariant-loop-i l = (length l.out ≡ length l.initial.out) × (l.out ≡ put l.initial.out 22 (table_bytes (take l.i l.fn.table)))
