use Rattle.frame.specs.Frame.{is_fsync1}
use Rattle.periods.proofs.Passing.{part_is, no_sync_word}
use mathlib.Core.Path.{ap, ◌∙◌}
use Rattle.periods.proofs.fsync1_at.Goals as goal

pub returns-then-whole : goal.returns-then-whole
returns-then-whole c =
    c.is_fsync1.ensures ∙ ap is_fsync1 (part_is c.args.bytes.now c.args.p)

pub returns : goal.returns
returns c = no_sync_word _ _ (c.whole.ensures.1 c.if-whole.false)
