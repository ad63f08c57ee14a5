use native.Mathlib.Omega.{arith}
use Rattle.frame.proofs.Streams.{table_more}
use Rattle.entries.specs.Entered.{entry_in, entries_to}
use Rattle.entries.proofs.Entering.{entries_more, entries_length}
use Rattle.entries.proofs.table.Goals as goal

pub loop-i-init : goal.loop-i-init
unfolding entries_to
loop-i-init c = c.no_streams-table.ensures

pub loop-i-preserved : goal.loop-i-preserved
loop-i-preserved c =
    let b = c.args.bytes.now in
    let i = c.loop-i.i in
    rw (entries_more b i, c.loop-i.invariant, c.entry.ensures) (table_more (entries_to b i) (entry_in b i) i (entries_length b i) (omega arith))
