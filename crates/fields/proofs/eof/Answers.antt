use native.Mathlib.Nat.{div-one}
use Rattle.frame.specs.Frame.{main_sum_of, rfu_of}
use Rattle.fields.proofs.eof.Goals as goal

pub returns : goal.returns
unfolding main_sum_of rfu_of
returns c =
    let e = c.word-w.ensures.0 in
    let n = c.fc-fc.ensures.fl in
    record { sum = rw (e, n); rfu = rw (← n, ← e, div-one c.word-w.result) }
