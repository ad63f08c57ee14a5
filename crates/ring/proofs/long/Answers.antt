-- `ring::long` meets its contract: the register's word is added to two bytes, and the end.
-- Assumes nothing.
use mathlib.Core.Path.{◌≡◌}
use Prim.Native.Nat.{◌/◌, ◌%◌, ◌^◌}
use native.Mathlib.Omega.{arith}
use Rattle.stretch.specs.Stretch.{after_rows}
use Rattle.ring.proofs.Feedback.{begun}
use Rattle.ring.proofs.long.Goals as goal

pub returns : goal.returns
returns c = λ s e.
    let w = c.args.start in
    let high : w / 256 ^ 1 % 256 ≡ w / 2 ^ 8 = omega arith in
    c.closed.ensures (after_rows s c.args.rows.now)
    (c.rounds.ensures s (rw (c.copy_from_slice.ensures.after, c.to_be_bytes.ensures, high) (begun s w c.ranges.start.fits e)))
