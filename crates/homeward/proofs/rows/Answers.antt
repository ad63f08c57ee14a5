use mathlib.Core.Path.{ap, ◌∙◌}
use borrow.Author.Rules.{rules}
use Rattle.homeward.specs.RowsClean.{clean_rows}
use Rattle.homeward.proofs.RowsTold.{not-output, not-room, rows_told}
use Rattle.homeward.proofs.rows.Goals as goal

pub returns-in_default : goal.returns-in_default
returns-in_default c = not-output _ _ _ (search rules)

pub returns-then-clean-ne24 : goal.returns-then-clean-ne24
returns-then-clean-ne24 c = not-room _ _ _ c.in-Ok.ensures.1.long c.if-clean-ne24.true

pub returns : goal.returns
returns c = rows_told c.args.fourteen c.args.output.now c.args.clean.now _ c.in-Ok.ensures.1.long (search rules) (c.put_rows.ensures ∙ ap (clean_rows _) c.in-Ok.ensures.1.same)
