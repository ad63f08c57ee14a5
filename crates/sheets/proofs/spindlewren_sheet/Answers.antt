use Rattle.std.proofs.Common.{refl, ◌∙◌, ap}
use Rattle.controller.proofs.Telling.{told_given}
use Rattle.sheets.specs.SheetBytes.{sheet_in}
use Rattle.sheets.proofs.SheetStored.{sheet_added, adding_number}
use Rattle.sheets.proofs.spindlewren_sheet.Goals as goal

pub returns-in-Ok : goal.returns-in-Ok
returns-in-Ok c =
    let w = c.in-Some.ensures.cases in
    let e = c.sheet_in.ensures ∙ ap sheet_in w.same in
    let a = c.in-Ok.ensures in
    told_given 146 _ _ _ w.long _ (adding_number _ _ _ _ _ _ e a) refl _ (c.put_sheet.ensures ∙ sheet_added _ _ _ _ _ _ e a refl)
