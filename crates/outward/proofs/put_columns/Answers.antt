-- `outward::put_columns` meets its contract.
-- Assumes nothing.
use borrow.Author.Rules.{rules}
use Rattle.outward.proofs.Placing.{management_columns, supervision_columns, lower_columns}
use Rattle.outward.proofs.put_columns.Goals as goal

pub returns-in-0 : goal.returns-in-0
returns-in-0 c r =
    let a = c.args in
    management_columns a.w a.i a.information.now a.management.now a.supervision.now r _ (search rules) c.put_upper_row.ensures

pub returns-in-1 : goal.returns-in-1
returns-in-1 c r =
    let a = c.args in
    supervision_columns a.w a.i a.information.now a.management.now a.supervision.now r _ (search rules) c.put_upper_row-in-1.ensures

pub returns-in_default : goal.returns-in_default
returns-in_default c r =
    let a = c.args in
    lower_columns a.w a.i a.information.now a.management.now a.supervision.now r _ (search rules) c.put_lower_row.ensures
