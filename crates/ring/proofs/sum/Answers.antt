-- `ring::sum` meets its contract: each way feeds all the bytes to a register of ones.
-- Assumes nothing.
use mathlib.Core.Path.{refl, sym}
use native.Mathlib.Nat.{le_refl}
use lib.ListN.{length}
use lib.Seq.{take_all}
use Rattle.sum.specs.Sum.{ones, after, sum_of}
use Rattle.sum.proofs.SumLaws.{inverse}
use Rattle.ring.proofs.sum.Goals as goal

pub returns-then-len-lt48 : goal.returns-then-len-lt48
unfolding sum_of
returns-then-len-lt48 c =
    let xs = c.args.bytes.now in
    rw (c.few.ensures ones refl, take_all (length xs) xs (le_refl (length xs))) (sym (inverse (after ones xs)))
