use Rattle.frame.specs.Writing.{fl_in}
use Rattle.refusing.proofs.body_in.Goals as goal

pub returns : goal.returns
unfolding fl_in
returns c =
    let seen = c.look_over-seen.ensures in
    let ficl = c.ficl-ficl.ensures.0 in
    rw (c.body.ensures, seen.1, seen.2, ficl, c.bit.ensures)
