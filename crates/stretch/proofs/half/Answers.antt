-- `stretch::half` meets its contract: the bytes of the number are those lent.
-- Assumes nothing.
use mathlib.Core.Path.{◌≡◌, ap, ◌∙◌}
use borrow.Author.Rules.{rules}
use lib.ListN.{length}
use Rattle.std.proofs.lemmas.Nat.{be_bytes_4}
use Rattle.sum.specs.Sum.{after}
use Rattle.stretch.proofs.Stretching.{half_bytes}
use Rattle.stretch.proofs.half.Goals as goal

pub returns : goal.returns
returns c = λ s.
    let n : length c.args.h.now ≡ 4 = search rules in
    half_bytes s c.from_be_bytes.result ∙ ap (after s) (be_bytes_4 c.args.h.now _ n (search rules) c.from_be_bytes.ensures)
