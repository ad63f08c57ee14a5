use Rattle.frame.specs.Rules.{refusal_of}
use Rattle.periods.proofs.Passing.{part_is, refused_short}
use mathlib.Core.Path.{ap, ◌∙◌}
use Rattle.periods.proofs.judge_at.Goals as goal

pub returns-then-not-whole : goal.returns-then-not-whole
returns-then-not-whole c = refused_short _ _ (c.whole.ensures.1 c.if-not-whole.true)

pub returns : goal.returns
returns c =
    c.judge.ensures ∙ ap refusal_of (part_is c.args.bytes.now c.args.p)
