use Rattle.std.proofs.Common.{sym, ◌∙◌}
use Rattle.signalling.proofs.GroupTaken.{passes_over}
use Rattle.signalling.proofs.Opened.take.Goals as goal

pub returns-in-Other : goal.returns-in-Other
returns-in-Other c = passes_over _ (sym c.kind_in.ensures ∙ c.in-Other.is)
