use native.Mathlib.Nat.{div-one}
use Rattle.frame.specs.Frame.{err_of, fsync_of}
use Rattle.fields.proofs.sync.Goals as goal

pub returns : goal.returns
unfolding err_of fsync_of
returns c = let e = c.word-w.ensures.0 in record { err = rw e; fsync = rw (← e, div-one c.word-w.result) }
