use Rattle.std.proofs.Common.{◌∙◌, ◌+◌, ◌*◌, ap, arith}
use Rattle.octets.specs.Stores.{put}
use Rattle.sending.specs.SentGroups.{continuation_group}
use Rattle.sending.proofs.Stored.{six_from, none_yet, one_more}
use Rattle.sending.proofs.put_continuations.Goals as goal

pub loop-i-init : goal.loop-i-init
loop-i-init c = none_yet c.args.out.now c.args.m.now (omega arith)

pub loop-i-preserved : goal.loop-i-preserved
loop-i-preserved c =
    one_more c.args.out.now c.args.m.now c.loop-i.i (omega arith) (omega arith) _ _ c.loop-i.invariant
    (c.put_continuation.ensures ∙ ap (λ x. put c.loop-i.out (8 + 8 * c.loop-i.i) (continuation_group x)) (six_from c.args.m.now (4 + 6 * c.loop-i.i)))
