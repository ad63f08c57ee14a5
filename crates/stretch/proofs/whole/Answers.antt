-- `stretch::whole` meets its contract: the bytes of the number are those lent.
-- Assumes nothing.
use mathlib.Core.Path.{◌≡◌, ap, ◌∙◌}
use borrow.Author.Rules.{rules}
use lib.ListN.{length}
use Rattle.std.proofs.lemmas.Nat.{be_bytes_8}
use Rattle.sum.specs.Sum.{after}
use Rattle.stretch.proofs.Stretching.{word_bytes}
use Rattle.stretch.proofs.whole.Goals as goal

pub returns : goal.returns
returns c = λ s.
    let n : length c.args.w.now ≡ 8 = search rules in
    word_bytes s c.from_be_bytes.result ∙ ap (after s) (be_bytes_8 c.args.w.now _ n (search rules) c.from_be_bytes.ensures)
