use Rattle.live.specs.Live.{later_item}
use Rattle.live.proofs.later_item.Goals as goal

pub returns-in-Frame : goal.returns-in-Frame
unfolding later_item
returns-in-Frame c = rw c.in-Frame.is

pub returns-in-Lost : goal.returns-in-Lost
unfolding later_item
returns-in-Lost c = rw c.in-Lost.is

pub returns-in-Idle : goal.returns-in-Idle
unfolding later_item
returns-in-Idle c = rw c.in-Idle.is

pub returns-in-Done : goal.returns-in-Done
unfolding later_item
returns-in-Done c = rw c.in-Done.is
