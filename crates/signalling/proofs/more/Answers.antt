use Rattle.std.proofs.Common.{rules, sym, ◌∙◌, ap}
use Rattle.std.proofs.lemmas.List.{take_more}
use Rattle.signalling.specs.OnNumbers.{fed}
use Rattle.signalling.proofs.Register.{fed_none, fed_more}
use Rattle.signalling.proofs.more.Goals as goal

pub loop-b-init : goal.loop-b-init
loop-b-init c = fed_none _ (search rules)

pub loop-b-preserved : goal.loop-b-preserved
loop-b-preserved c =
    fed_more _ _ _ _ _ c.loop-b.invariant c.step-register.ensures ∙ ap (fed c.args.crc) (sym (take_more c.args.bytes.now c.loop-b.b-index 0 c.loop-b-test.true))
