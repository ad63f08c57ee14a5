use Rattle.why.specs.WhyClauses.{Says}
use Rattle.why.proofs.seek.Goals as goal

pub returns-in-Frame : goal.returns-in-Frame
unfolding Says
returns-in-Frame c = rw c.in-Frame.is c.seek_by.ensures

pub returns-in-Lost : goal.returns-in-Lost
unfolding Says
returns-in-Lost c = rw c.in-Lost.is c.seek_by-in-Lost.ensures

pub returns-in-Idle : goal.returns-in-Idle
unfolding Says
returns-in-Idle c = rw c.in-Idle.is c.seek_by-in-Idle.ensures

pub returns-in-Done : goal.returns-in-Done
unfolding Says
returns-in-Done c = rw c.in-Done.is
