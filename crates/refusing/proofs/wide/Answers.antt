use Rattle.frame.specs.Writing.{wider}
use Rattle.refusing.proofs.wide.Goals as goal

pub returns : goal.returns
unfolding wider
returns c =
    rw (c.head_wider.ensures, c.time_wider.ensures, c.look_over-seen.ensures.0)
