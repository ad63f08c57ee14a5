use Rattle.items.proofs.OnePass.{looked, looked_bad}
use borrow.Author.Rules.{rules}
use mathlib.Core.Path.{sym, refl, ◌∙◌}
use Rattle.items.proofs.look.Goals as goal

pub returns-then-bad : goal.returns-then-bad
returns-then-bad c = (refl, looked_bad c.args.rest.now c.word-bits.result _ _ (search rules) (search rules) (search rules) (sym c.if-bad.true ∙ c.bad.ensures))

pub returns : goal.returns
returns c = looked c.args.rest.now _ _ _ (search rules) (search rules) (search rules) _ refl (search rules) refl (sym c.if-bad.false ∙ c.bad.ensures)
