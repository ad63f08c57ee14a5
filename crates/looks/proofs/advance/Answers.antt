use native.Mathlib.Omega.{arith}
use Rattle.looks.proofs.Tallies.{one_locked}
use Rattle.looks.proofs.advance.Goals as goal

pub returns-then-position : goal.returns-then-position
returns-then-position c = one_locked _ _ _ c.if-position.true (omega arith) (c.requires.2 c.if-position.true) _ c.from_lock.ensures
