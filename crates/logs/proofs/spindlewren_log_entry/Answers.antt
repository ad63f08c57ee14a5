use Rattle.std.proofs.Common.{refl, ◌∙◌}
use Rattle.controller.proofs.Telling.{told_given}
use Rattle.logs.proofs.LogStored.{entry_stored, entry_found}
use Rattle.logs.proofs.spindlewren_log_entry.Goals as goal

pub returns-in-Ok : goal.returns-in-Ok
returns-in-Ok c =
    let whole = c.if-out-ne11.false in
    let f = c.in-Ok.ensures in
    told_given 11 _ _ _ whole 0 f.number refl _ (entry_stored _ _ _ _ whole c.put8.ensures c.put_bytes.ensures ∙ entry_found _ _ _ _ f refl)
