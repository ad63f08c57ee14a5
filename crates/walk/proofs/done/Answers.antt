use mathlib.Core.Path.{◌∙◌}
use Rattle.walk.proofs.Stepping.{done_bare}
use Rattle.walk.proofs.done.Goals as goal

pub returns : goal.returns
returns c = λ bytes. c.no_frame.ensures ∙ done_bare bytes _ _
