-- `stretch::rest` meets its contract: the first four bytes, and the others.
-- Assumes nothing.
use mathlib.Core.Path.{ap, ◌∙◌}
use Rattle.sum.specs.Sum.{after, word}
use Rattle.stretch.proofs.Stretching.{whole}
use Rattle.stretch.proofs.rest.Goals as goal

pub returns-in-Some : goal.returns-in-Some
returns-in-Some c = λ s e.
    let cases = c.in-Some.ensures.cases in
    c.ones.ensures (after s c.in-Some.first.now) (c.half_on.ensures s e ∙ ap word (c.half.ensures s))
    ∙ ap word (rw (cases.0, cases.1) (whole s c.args.bytes.now 4))
