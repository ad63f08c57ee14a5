use native.Mathlib.Nat.{div-one}
use Rattle.frame.specs.Frame.{rfa_of, time_of}
use Rattle.fields.proofs.tist.Goals as goal

pub returns : goal.returns
unfolding rfa_of time_of
returns c =
    let e = c.word-w.ensures.0 in
    let n = c.fc-fc.ensures.fl in
    record { rfa = rw (e, n); time = rw (← n, ← e, div-one c.word-w.result) }
