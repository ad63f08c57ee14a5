use Rattle.std.proofs.Common.{◌≡◌, drop}
use Rattle.octets.specs.Stores.{put}
use Rattle.signalling.specs.Messages.{in_row}
use Rattle.sending.specs.SentGroups.{continuations}
use Rattle.sending.proofs.put_continuations.Given as goal

abbrev pub invariant-loop-i : goal.invariant-loop-i
invariant-loop-i l = l.out ≡ put l.initial.out 8 (in_row (continuations l.i (drop 4 l.m)))
