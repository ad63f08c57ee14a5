use Rattle.std.proofs.Common.{◌≡◌, ◌≤◌, ◌*◌}
use Rattle.frame.specs.Frame.{streams_to, stl_total}
use Rattle.frame.specs.Rules.{some_stl_above}
use Rattle.judging.proofs.look_over.Given as goal

abbrev pub invariant-loop-i : goal.invariant-loop-i
invariant-loop-i l =
    (l.above ≡ some_stl_above 684 (streams_to l.frame l.i)) × (l.total ≡ stl_total (streams_to l.frame l.i)) × (l.total ≤ 65535 * l.i)
