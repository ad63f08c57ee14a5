use mathlib.Core.Path.{sym, ◌∙◌}
use Rattle.std.proofs.lemmas.Result.{err_from_is_err_and}
use Rattle.refusals.proofs.Numbers.{above_zero}
use Rattle.edi.proofs.RegeneratingRules.{regenerates_refused, regenerates_over, regenerates_written, long_fields}
use Rattle.edi.proofs.regenerate.Goals as goal

pub returns-in_err-sort : goal.returns-in_err-sort
returns-in_err-sort c =
    let p = err_from_is_err_and c.from_residual.result c.from_residual.ensures.1 in
    rw (p.1, p.2) (regenerates_refused _ _ _ _ c.in_err-sort.ensures.number (above_zero _))

pub returns-then-some_long : goal.returns-then-some_long
returns-then-some_long c =
    let y = c.in_ok-sort.ensures in
    regenerates_over _ _ _ (sym y.number) (long_fields _ _ y.high _ (sym c.some_long.ensures ∙ c.if-some_long.true)) _ c.over.ensures

pub returns : goal.returns
returns c = regenerates_written _ _ _ (sym c.in_ok-sort.ensures.number) _ _ c.build.ensures
