use Rattle.frame.specs.Answers.{header_for}
use Rattle.frame.specs.Frame.{level_of}
use Rattle.reading.proofs.header.Goals as goal

pub returns : goal.returns
unfolding header_for level_of
returns c =
    let fc = c.fc-fc.ensures in
    let sync = c.sync-sync.ensures in
    rw (
      ← c.main_sum-worked.ensures,
      ← sync.err,
      ← sync.fsync,
      ← fc.fct,
      ← fc.ficf,
      ← fc.nst,
      ← fc.fp,
      ← fc.mid,
      ← fc.fl,
      ← c.eoh-eoh.ensures.mnsc,
      ← c.eof-eof.ensures.rfu,
      ← c.eof-eof.ensures.sum,
      ← c.tist-tist.ensures.rfa,
      ← c.tist-tist.ensures.time,
      ← c.timestamp-timestamp.ensures,
      ← c.level.ensures,
      ← c.handed.ensures,
      ← c.is_fsync1.ensures,
    )
