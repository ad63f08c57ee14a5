-- `stretch::half_on` meets its contract: register and half a word are as one word.
-- Assumes nothing.
use mathlib.Core.Path.{sym, ap, ◌∙◌}
use Rattle.sum.specs.Sum.{Register, word}
use Rattle.stretch.specs.Stretch.{after4}
use Rattle.stretch.proofs.Stretching.{as_half, from_word}
use Rattle.stretch.proofs.half_on.Goals as goal

pub returns : goal.returns
returns c = λ s e.
    let z = c.args.z in
    (rw (c.from.ensures, c.from-2.ensures) at c.divide.ensures)
    ∙ ap word (sym (as_half c.args.crc z c.ranges.crc.fits c.ranges.z.fits) ∙ ap (λ (q : Register). after4 q z) (from_word s c.args.crc e))
