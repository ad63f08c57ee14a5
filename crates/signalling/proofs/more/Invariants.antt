use Rattle.std.proofs.Common.{◌≡◌, take}
use Rattle.signalling.specs.OnNumbers.{fed}
use Rattle.signalling.proofs.more.Given as goal

abbrev pub invariant-loop-b : goal.invariant-loop-b
invariant-loop-b l = l.register ≡ fed l.crc (take l.b-index l.bytes)
