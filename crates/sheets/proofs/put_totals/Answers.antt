use Rattle.std.proofs.Common.{◌≡◌, ◌∙◌, arith, length, rules}
use Rattle.std.proofs.Math.Seq.{take_all}
use Rattle.octets.proofs.Storing.{put_none}
use Rattle.sheets.proofs.SheetStored.{totals_more}
use Rattle.sheets.proofs.put_totals.Goals as goal

pub loop-i-init : goal.loop-i-init
loop-i-init c = put_none c.args.out.now 0 (omega arith)

pub loop-i-preserved : goal.loop-i-preserved
loop-i-preserved c =
    let sixteen : length c.args.totals ≡ 16 = (search rules) in
    c.put8.ensures ∙ rw c.loop-i.invariant (totals_more c.args.out.now c.args.totals c.loop-i.i c.told-out sixteen (omega arith))

pub returns : goal.returns
returns c =
    let t = c.args.totals in
    let sixteen : length t ≡ 16 = (search rules) in
    let e : c.loop-i.i ≡ 16 = omega arith in
    (c.loop-i.invariant ∙ (rw (e, take_all 16 t (omega arith))), sixteen)
