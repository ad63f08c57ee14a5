use Rattle.sheet.proofs.Totals.{total_more, total_kept}
use Rattle.sheet.proofs.count.Goals as goal

pub returns-then-row-lt16 : goal.returns-then-row-lt16
returns-then-row-lt16 c = total_more _ c.told-totals _ _ c.row-row.ensures

pub returns-else-row-lt16 : goal.returns-else-row-lt16
returns-else-row-lt16 c = total_kept _ c.told-totals _ _ c.row-row.ensures c.if-row-lt16.false
