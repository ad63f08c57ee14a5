use mathlib.Core.Path.{◌≡◌}
use lib.ListN.{length, take}
use Rattle.octets.specs.Stores.{put}
use Rattle.frame.specs.Writing.{streams_bytes}
use Rattle.writing.proofs.put_streams.Given as goal

abbrev pub invariant-loop-i : goal.invariant-loop-i
invariant-loop-i l = (length l.out ≡ length l.initial.out) × (l.out ≡ put l.initial.out 8 (streams_bytes (take l.i l.table)))
