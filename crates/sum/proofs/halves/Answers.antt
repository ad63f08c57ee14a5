-- `sum::halves` meets its contract, as `sum::step` does.
-- Assumes nothing.
use mathlib.Core.Path.{refl}
use Rattle.sum.specs.Sum.{bit, load}
use Rattle.linear.proofs.Linear.{itself, right, left, then, xor, nth}
use Rattle.sum.proofs.Shifts.{one_byte}
use Rattle.sum.proofs.halves.Goals as goal

pub returns : goal.returns
unfolding bit load
returns c = let half = xor (left 16 4) (then (right 12) (xor (xor (left 16 12) (left 16 5)) itself)) in
    rw c.from.ensures
    (one_byte (then (then (xor (nth 0) (then (nth 1) (left 16 8))) half) half) refl
    c.args.crc c.args.b c.ranges.crc.fits c.ranges.b.fits)
