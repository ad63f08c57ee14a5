use mathlib.Core.Path.{ap, ◌∙◌}
use Prim.Native.Nat.{◌+◌}
use native.Mathlib.Omega.{arith}
use Rattle.frame.proofs.Streams.{table_more}
use Rattle.items.specs.TagItems.{items_of, value_of}
use Rattle.tags.specs.TagValues.{entry_in}
use Rattle.sorting.proofs.OnceMet.{highest_small}
use Rattle.edi.specs.Regenerating.{entries_to}
use Rattle.edi.proofs.StreamsKept.{stream_head, short_at, entries_length, entries_more}
use Rattle.edi.proofs.Sorted.table.Goals as goal

pub loop-i-init : goal.loop-i-init
unfolding entries_to
loop-i-init c = c.no_streams-table.ensures

pub entry-requires : goal.entry-requires
entry-requires c =
    let s = c.args.self.now in
    rw c.stream.ensures (stream_head s.packet.now s.accepted c.loop-i.i (omega (arith, s.highest)), short_at (items_of s.packet.now) _ c.requires c.loop-i.i (omega arith))

pub offset_bounds-table-i : goal.offset_bounds-table-i
offset_bounds-table-i c = let s = c.args.self.now in omega (arith, s.highest, highest_small (items_of s.packet.now))

pub bounds-table-i : goal.bounds-table-i
bounds-table-i c = let s = c.args.self.now in omega (arith, s.highest, highest_small (items_of s.packet.now))

pub loop-i-preserved : goal.loop-i-preserved
loop-i-preserved c =
    let s = c.args.self.now in
    let is = items_of s.packet.now in
    let i = c.loop-i.i in
    let e = c.entry.ensures ∙ ap entry_in c.stream.ensures in
    rw (entries_more is i, c.loop-i.invariant, e) (table_more (entries_to is i) (entry_in (value_of (i + 1) is)) i (entries_length is i) (omega (arith, s.highest, highest_small is)))
