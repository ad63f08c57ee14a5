use mathlib.Core.Path.{◌∙◌}
use Rattle.code.proofs.CodeRegisters.{stored}
use Rattle.code.proofs.put_remainder.Goals as goal

pub returns : goal.returns
returns g c q k m = stored g.row.R _ _ _ c.requires.1 c.to_be_bytes-bytes.ensures c.copy_from_slice.ensures.after ∙ c.remainder.ensures q k m
