use mathlib.Core.Path.{ap, ◌∙◌}
use Prim.Native.Nat.{◌≤◌}
use native.Mathlib.Omega.{arith}
use borrow.Author.Rules.{rules}
use lib.ListN.{length, drop}
use Rattle.items.proofs.OnePass.{take_rest}
use Rattle.edi.proofs.StreamsKept.{stream_head, filling_none, filling_place, filling_more}
use Rattle.edi.proofs.Sorted.put_data.Goals as goal

pub loop-i-init : goal.loop-i-init
loop-i-init c = filling_none _ _ _ (omega (arith, c.requires))

pub slice_bounds-data-count : goal.slice_bounds-data-count
slice_bounds-data-count c =
    let s = c.args.self.now in
    rw c.stream.ensures (stream_head s.packet.now s.accepted c.loop-i.i (omega (arith, s.highest)))

pub slice_bounds-data-start : goal.slice_bounds-data-start
slice_bounds-data-start c =
    let s = c.args.self.now in
    let h : 3 ≤ length c.stream.result.now = rw c.stream.ensures (stream_head s.packet.now s.accepted c.loop-i.i (omega (arith, s.highest))) in
    search rules

pub overflow_add-next : goal.overflow_add-next
overflow_add-next c =
    let e = take_rest c.stream.result.now 3 ∙ ap (drop 3) c.stream.ensures in
    omega (arith, filling_place _ _ _ _ c.requires _ _ _ c.loop-i.invariant (search rules) _ e)

pub loop-i-preserved : goal.loop-i-preserved
loop-i-preserved c =
    let e = take_rest c.stream.result.now 3 ∙ ap (drop 3) c.stream.ensures in
    filling_more _ _ _ _ c.requires _ _ _ c.loop-i.invariant (search rules) _ e _ c.put_bytes.ensures
