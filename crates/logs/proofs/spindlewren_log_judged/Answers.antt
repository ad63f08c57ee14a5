use Rattle.std.proofs.Common.{refl, ◌∙◌}
use Rattle.controller.proofs.Telling.{told_given}
use Rattle.logs.proofs.LogStored.{judged_stored}
use Rattle.logs.proofs.spindlewren_log_judged.Goals as goal

pub returns : goal.returns
returns c =
    let whole = c.if-out-ne9.false in
    let e = c.told-number.ensures in
    let j = c.judge.ensures in
    told_given 9 0 _ _ whole 0 refl refl _ (judged_stored _ _ _ _ _ _ whole (record { number = e.0 ∙ j.number; bad = e.1 ∙ j.bad }) c.put_bytes.ensures c.put8.ensures)
