use mathlib.Core.Path.{sym, ap, ◌∙◌}
use Rattle.homeward.specs.RowsClean.{digit}
use Rattle.homeward.proofs.RowsTold.{told, never_refused}
use Rattle.homeward.proofs.clean_row.Goals as goal

pub returns-in-Ok-true : goal.returns-in-Ok-true
returns-in-Ok-true c o i e = ap digit (sym c.in-Ok-true.field-0-test) ∙ told c.args.fourteen o _ i _ e c.width.ensures.0 _ c.in-Ok-true.ensures

pub returns-in_default : goal.returns-in_default
returns-in_default c o i e = ap digit (sym c.in_default.field-0-test) ∙ told c.args.fourteen o _ i _ e c.width.ensures.0 _ c.in_default.ensures

pub returns-in_default-2 : goal.returns-in_default-2
returns-in_default-2 c o i e = absurd (never_refused c.args.fourteen o _ i _ e c.width.ensures.0 _ c.in_default.ensures)
