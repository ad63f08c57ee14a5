use mathlib.Core.Path.{refl}
use Rattle.frame.specs.Answers.{table_by}
use Rattle.reading.proofs.no_streams.Goals as goal

pub returns : goal.returns
unfolding table_by
returns c = refl
