use Rattle.sheets.proofs.SheetStored.{sheet_stored}
use Rattle.sheets.proofs.put_sheet.Goals as goal

pub returns : goal.returns
returns c = sheet_stored _ _ _ _ _ _ c.told-out c.put_totals.ensures c.put8.ensures c.put8-2.ensures c.put_bytes.ensures
