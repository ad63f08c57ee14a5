-- `walker::frame_of` meets its contract.
-- Assumes nothing.
use mathlib.Core.Path.{refl}
use Rattle.walker.specs.Advance.{frame_part}
use Rattle.walker.proofs.Periods.{no_frame}
use Rattle.walker.proofs.frame_of.Goals as goal

pub returns-in-Frame : goal.returns-in-Frame
unfolding frame_part
returns-in-Frame c = rw c.in-Frame.is c.part_at.ensures

pub returns-in_default : goal.returns-in_default
returns-in_default c = rw (no_frame c.args.«record».now c.args.item c.in_default.not-Frame) (record { bytes = refl; place = refl })
