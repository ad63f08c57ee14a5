-- `ring::many` meets its contract: each way feeds all the bytes to a register of ones.
-- Assumes nothing.
use mathlib.Core.Path.{refl, sym}
use native.Mathlib.Nat.{le_refl}
use lib.ListN.{length}
use lib.Seq.{take_all}
use Rattle.sum.specs.Sum.{ones, after, sum_of}
use Rattle.sum.proofs.SumLaws.{inverse}
use Rattle.ring.proofs.Between.{by_rows}
use Rattle.ring.proofs.many.Goals as goal

pub returns-in-Some : goal.returns-in-Some
unfolding sum_of
returns-in-Some c =
    let xs = c.args.bytes.now in
    let rows = c.as_rchunks.ensures in
    rw (c.long.ensures _ (c.fed.ensures ones refl), by_rows ones xs _ _ _ _ rows.front rows.back c.in-Some.ensures.cases.0) (sym (inverse (after ones xs)))

pub returns-in_default : goal.returns-in_default
unfolding sum_of
returns-in_default c =
    let xs = c.args.bytes.now in
    rw (c.fed-in_default.ensures ones refl, take_all (length xs) xs (le_refl (length xs))) (sym (inverse (after ones xs)))
