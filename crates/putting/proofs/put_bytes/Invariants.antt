use Rattle.std.proofs.Common.{◌≡◌, length, take}
use Rattle.octets.specs.Stores.{put}
use Rattle.putting.proofs.put_bytes.Given as goal

abbrev pub invariant-loop-k : goal.invariant-loop-k
invariant-loop-k l = l.out ≡ put l.initial.out l.at (take l.k l.bytes)
