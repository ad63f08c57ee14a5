use lib.Dec.{eqb}
use Rattle.block.specs.WalkBytes.{state_in}
use Rattle.block.proofs.state_in.Goals as goal

pub returns : goal.returns
unfolding state_in
returns c =
    let place = c.eight.ensures in
    let misses = c.byte.ensures.0 in
    let lock = c.byte-2.ensures.0 in
    let limit = c.byte-3.ensures.0 in
    λ i. record { limit = limit i; position = record { place = place i; misses = misses i; lock = eqb (lock i) 1 } }
