use native.Mathlib.Nat.{div-one}
use Rattle.frame.specs.Frame.{mnsc_of, header_sum_of}
use Rattle.fields.proofs.eoh.Goals as goal

pub returns : goal.returns
unfolding mnsc_of header_sum_of
returns c =
    let e = c.word-w.ensures.0 in
    let n = c.fc-fc.ensures.nst in
    record { mnsc = rw (e, n); sum = rw (← n, ← e, div-one c.word-w.result) }
