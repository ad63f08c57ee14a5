use native.Mathlib.Omega.{arith}
use Rattle.frame.specs.Frame.{stream_of, streams_to}
use Rattle.frame.proofs.Streams.{streams_length, streams_more, table_more}
use Rattle.reading.proofs.table.Goals as goal

pub loop-i-init : goal.loop-i-init
unfolding streams_to
loop-i-init c = c.no_streams-table.ensures

pub loop-i-preserved : goal.loop-i-preserved
loop-i-preserved c =
    let f = c.args.frame.now in
    let i = c.loop-i.i in
    rw (streams_more f i, c.loop-i.invariant, c.entry.ensures) (table_more (streams_to f i) (stream_of f i) i (streams_length f i) (omega arith))
