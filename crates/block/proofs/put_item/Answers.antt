use Rattle.block.specs.WalkBytes.{step_bytes}
use Rattle.block.proofs.put_item.Goals as goal

pub returns-in-Frame : goal.returns-in-Frame
unfolding step_bytes
returns-in-Frame c = rw c.in-Frame.is c.put_told.ensures

pub returns-in-Lost : goal.returns-in-Lost
unfolding step_bytes
returns-in-Lost c = rw (c.in-Lost.is, ← c.number.ensures.0) c.put_told-in-Lost.ensures

pub returns-in-Idle : goal.returns-in-Idle
unfolding step_bytes
returns-in-Idle c = rw c.in-Idle.is c.put_told-in-Idle.ensures

pub returns-in-Done : goal.returns-in-Done
unfolding step_bytes
returns-in-Done c = rw c.in-Done.is c.put_told-in-Done.ensures
