use Rattle.std.proofs.Common.{ℕ, ◌<◌, arith, length-set}
use Rattle.sheets.proofs.SheetStored.{read_more, all_read}
use Rattle.sheets.proofs.totals_in.Goals as goal

pub loop-i-preserved : goal.loop-i-preserved
loop-i-preserved c =
    let v = c.loop-i.invariant in
    (simp length-set v.0, read_more _ _ v.0 _ _ (omega arith) c.eight.ensures v.1)

pub returns : goal.returns
returns c =
    let v = c.loop-i in
    all_read _ _ v.invariant.0 (λ (k : ℕ) (h : k < 16). v.invariant.1 k (omega arith))
