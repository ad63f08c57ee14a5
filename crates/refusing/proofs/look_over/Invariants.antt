use mathlib.Core.Path.{◌≡◌}
use Prim.Native.Nat.{◌≤◌, ◌*◌}
use lib.ListN.{take}
use Rattle.frame.specs.Frame.{stl_total}
use Rattle.frame.specs.Rules.{some_stl_above}
use Rattle.frame.specs.Writing.{some_stream_wider}
use Rattle.refusing.proofs.look_over.Given as goal

abbrev pub invariant-loop-s : goal.invariant-loop-s
invariant-loop-s l =
    (l.wider ≡ some_stream_wider (take l.s-index l.entries)) × (l.above ≡ some_stl_above 684 (take l.s-index l.entries)) × (l.total ≡ stl_total (take l.s-index l.entries)) × (l.total ≤ 65535 * l.s-index)
