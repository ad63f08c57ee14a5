-- `octets::row` meets its contract. The loop's invariant: the bytes before k are those from the place on.
use Rattle.std.proofs.Common.{◌<◌, ◌≢◌, length, arith, get_or-set_other, get_or-set_same, get_or-drop, length-set, below_more, ◌∙◌}
use Rattle.octets.proofs.row.Goals as goal

pub loop-k-preserved : goal.loop-k-preserved
loop-k-preserved g c = (
  simp length-set c.loop-k.invariant.0,
  below_more _ _
      (λ k h. let ne : k ≢ c.loop-k.k = omega arith in rw get_or-set_other (c.loop-k.invariant.1 k h))
      (let lt : c.loop-k.k < length c.loop-k.b-items = omega arith in
      rw get_or-set_same (c.octet.ensures ∙ rw c.rest-rest.ensures (get_or-drop c.args.at c.args.bytes.now c.loop-k.k 0))),
)
