-- `stretch::few` meets its contract: the words, and what is behind them.
-- Assumes nothing.
use mathlib.Core.Path.{ap, ◌∙◌}
use Rattle.sum.specs.Sum.{word}
use Rattle.stretch.proofs.Stretching.{chunked}
use Rattle.stretch.proofs.few.Goals as goal

pub returns : goal.returns
returns c = λ s e.
    let cut = c.as_chunks.ensures in
    c.rest.ensures _ (c.words_on.ensures s e) ∙ ap word (chunked s 8 c.args.bytes.now _ _ cut.front cut.back)
