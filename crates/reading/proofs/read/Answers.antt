use mathlib.Core.Path.{ap, sym}
use Rattle.frame.specs.declared.Header.{Header}
use Rattle.frame.specs.Answers.{header_for}
use Rattle.reading.proofs.Answering.{read_accepted, read_refused}
use Rattle.frame.proofs.Accepting.{acceptable}
use native.Mathlib.Omega.{arith}
use Rattle.reading.proofs.read.Goals as goal

pub table-table-requires : goal.table-table-requires
unfolding header_for
table-table-requires c = let e = ap (λ (h : Header). h.nst) c.header-header.ensures in omega (arith, (acceptable _ (sym c.in-Ok.ensures)).streams)

pub returns-in-Ok : goal.returns-in-Ok
unfolding header_for
returns-in-Ok c = let e = ap (λ (h : Header). h.nst) c.header-header.ensures in read_accepted _ _ _ c.in-Ok.ensures c.header-header.ensures (rw (c.table-table.ensures, e))

pub returns-in-Err : goal.returns-in-Err
returns-in-Err c = read_refused _ _ _ c.in-Err.ensures c.no_streams.ensures
