use native.Mathlib.Nat.{div-one}
use Rattle.frame.specs.Frame.{fct_of, ficf_of, nst_of, fp_of, mid_of, fl_of}
use Rattle.fields.proofs.fc.Goals as goal

pub returns : goal.returns
unfolding fct_of ficf_of nst_of fp_of mid_of fl_of
returns c =
    let e = c.word-w.ensures.0 in
    record { fct = rw e; ficf = rw e; nst = rw e; fp = rw e; mid = rw e; fl = rw (← e, div-one c.word-w.result) }
