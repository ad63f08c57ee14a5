-- Every bench figure marked P holds of the definitions, by computing.
-- Assumes nothing.
use mathlib.Core.Path.{◌≡◌, refl}
use mathlib.Core.List.{map}
use Rattle.sum.specs.Sum.{sum_of, bit}
use Rattle.frame.specs.Answers.{timestamp_for}
use Rattle.frame.specs.Frame.{nst_of, ficf_of, mid_of, ficl_by, stream_of, streams_to, stl_total, level_by}
use Rattle.rows.specs.Figures.{worked, figure, figures}

pub figures_hold : map worked figures ≡ map figure figures
unfolding timestamp_for sum_of bit ficl_by nst_of ficf_of mid_of streams_to stl_total stream_of level_by
figures_hold = refl
