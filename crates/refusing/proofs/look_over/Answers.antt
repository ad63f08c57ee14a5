use mathlib.Core.Path.{refl}
use Prim.Native.Nat.{◌<◌}
use borrow.Author.Rules.{rules}
use lib.ListN.{length, take}
use Rattle.frame.specs.Frame.{stl_total}
use Rattle.frame.specs.Rules.{some_stl_above}
use Rattle.frame.specs.Writing.{some_stream_wider}
use Rattle.frame.proofs.Entries.{total_take, above_take, wider_take}
use Rattle.refusing.proofs.look_over.Goals as goal

pub loop-s-init : goal.loop-s-init
unfolding some_stream_wider some_stl_above stl_total
loop-s-init c = (refl, refl, refl, search rules)

pub loop-s-preserved : goal.loop-s-preserved
loop-s-preserved c =
    let t = take c.min.result c.args.table in
    let loop = c.loop-s in
    let i = loop.s-index in
    let h : i < length t = c.loop-s-test.true in
    (rw (loop.invariant.0, c.stream_wider-wider.ensures, wider_take t i h), rw (loop.invariant.1, above_take t i h 684), rw (loop.invariant.2, total_take t i h), search rules)
