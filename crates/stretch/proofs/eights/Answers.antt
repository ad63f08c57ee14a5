-- `stretch::eights` meets its contract: the words before the last four, and these.
-- Assumes nothing.
use mathlib.Core.Path.{ap, ◌∙◌}
use Prim.Native.Nat.{◌-◌}
use lib.ListN.{length}
use Rattle.sum.specs.Sum.{word}
use Rattle.stretch.proofs.Stretching.{all_rows}
use Rattle.stretch.proofs.eights.Goals as goal

pub returns-in-Some : goal.returns-in-Some
returns-in-Some c = λ s e.
    let ws = c.args.words.now in
    let cases = c.in-Some.ensures.cases in
    c.turns.ensures s e ∙ ap word (rw (cases.0, cases.1) (all_rows s ws (length ws - 4)))
