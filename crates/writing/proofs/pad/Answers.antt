use Rattle.writing.proofs.Puts.{filled}
use Rattle.writing.proofs.pad.Goals as goal

pub returns : goal.returns
returns c = filled _ _ _ _ c.requires (c.fill.ensures.after (λ y e. e))
