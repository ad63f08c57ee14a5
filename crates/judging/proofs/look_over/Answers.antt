use mathlib.Core.Path.{refl, ap}
use borrow.Author.Rules.{rules}
use Rattle.frame.specs.declared.Stream.{Stream}
use Rattle.frame.specs.Frame.{streams_to, stl_total}
use Rattle.frame.specs.Rules.{some_stl_above}
use Rattle.frame.proofs.Streams.{total_more, some_more}
use Rattle.judging.proofs.look_over.Goals as goal

pub loop-i-init : goal.loop-i-init
unfolding some_stl_above stl_total streams_to
loop-i-init c = (refl, refl, search rules)

pub loop-i-preserved : goal.loop-i-preserved
loop-i-preserved c =
    let f = c.args.frame.now in
    let i = c.loop-i.i in
    let e = ap (λ (s : Stream). s.stl) c.entry-entry.ensures in
    let inv = c.loop-i.invariant in
    (rw (some_more 684 f i, inv.0, e), rw (total_more f i, inv.1, e), search rules)
