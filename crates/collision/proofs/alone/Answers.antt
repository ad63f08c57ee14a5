-- `collision::alone` meets its contract.
-- Assumes nothing.
use Rattle.collision.specs.Collisions.{one_to}
use Rattle.collision.proofs.alone.Goals as goal

pub returns : goal.returns
unfolding one_to
returns g c = λ t h. rw (c.first_from-i.ensures t h)
