-- `stretch::word_on` meets its contract: register and word are as one word.
-- Assumes nothing.
use mathlib.Core.Path.{sym, ap, ◌∙◌}
use Rattle.sum.specs.Sum.{Register, word}
use Rattle.stretch.specs.Stretch.{after8}
use Rattle.stretch.proofs.Stretching.{as_one, from_word}
use Rattle.stretch.proofs.word_on.Goals as goal

pub returns : goal.returns
returns c = λ s e.
    let z = c.args.z in
    (rw c.from.ensures at c.divide.ensures)
    ∙ ap word (sym (as_one c.args.crc z c.ranges.crc.fits) ∙ ap (λ (q : Register). after8 q z) (from_word s c.args.crc e))
