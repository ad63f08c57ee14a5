-- `stretch::divide` meets its contract: it keeps exclusive or, and is right at the powers of two, which the checker computes.
-- Assumes nothing.
use mathlib.Core.List.{[], ◌∷◌}
use Rattle.linear.proofs.Linear.{itself, right, low, left, then, xor, nth, none, more, agree}
use Rattle.sum.specs.Sum.{bit, load}
use Rattle.sum.proofs.Shifts.{read}
use Rattle.stretch.specs.Stretch.{after4, after8}
use Rattle.stretch.proofs.Computed.{computed}
use Rattle.stretch.proofs.Stretching.{kept8, at_blank}
use Rattle.stretch.proofs.divide.Goals as goal

pub returns : goal.returns
unfolding bit load after4 after8
returns c =
    let t = then (nth 0) (xor (xor itself (right 4)) (xor (right 11) (right 16))) in
    let u = then t (xor (xor itself (right 8)) (xor (right 22) (right 32))) in
    let q = then (then u (xor (xor itself (right 16)) (right 44))) (xor itself (right 32)) in
    agree (then q (then (xor (xor itself (left 64 5)) (left 64 12)) (low 16))) (read (kept8 at_blank (nth 0))) (64 ∷ []) (computed tt)
    (c.args.p ∷ []) (more c.ranges.p.fits none)
