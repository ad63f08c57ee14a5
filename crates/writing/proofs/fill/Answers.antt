use Rattle.writing.proofs.Filled.{fits, frame_puts}
use native.Mathlib.Omega.{arith}
use Rattle.writing.proofs.fill.Goals as goal

pub put_end-requires : goal.put_end-requires
put_end-requires c = omega (arith, fits _ _ _ c.requires)

pub pad-requires : goal.pad-requires
pad-requires c = omega (arith, fits _ _ _ c.requires)

pub returns : goal.returns
returns c =
    let header = c.put_header in
    frame_puts c.args.x c.args.out.now c.requires.out c.args.main.now _ _ _ _ _ _ _ c.requires
    header.ensures.1
    header.ensures.0
    c.sum_between-sum.ensures
    c.put2.ensures
    c.put_bytes.ensures
    c.sum_between-main_sum.ensures
    c.put_end.ensures
    c.pad.ensures
