-- `Stretched::turn` meets its contract, by the law of a word that goes.
-- Assumes nothing.
use borrow.Author.Rules.{rules}
use Rattle.stretch.proofs.Stretching.{stands_on}
use Rattle.stretch.proofs.OneTurn.{turned}
use Rattle.stretch.proofs.Stretched.turn.Goals as goal

pub returns : goal.returns
returns c = λ q h. stands_on (c.whole.ensures q) (turned q c.args.self h c.whole.result (search rules) (search rules))
