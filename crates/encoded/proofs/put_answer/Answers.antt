use Rattle.encoded.proofs.EntryBytes.{parts}
use borrow.Author.Tests.{eq-eqb}
use borrow.Author.Rules.{rules}
use Rattle.encoded.proofs.put_answer.Goals as goal

pub returns : goal.returns
returns c =
    rw (eq-eqb _ 406 c.if-out-ne406.false)
    (parts c.args.h c.args.table c.args.out.now _ _ _ _ c.if-out-ne406.false (search rules)
    (rw c.first.ensures at c.put_bytes.ensures)
    (rw c.second.ensures at c.put_bytes-2.ensures)
    (rw c.third.ensures at c.put_bytes-3.ensures)
    c.put_table.ensures)
