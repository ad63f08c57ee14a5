-- `ring::sum_between` meets its contract: the part that is there.
-- Assumes nothing.
use mathlib.Core.Logic.{⊎_elim}
use native.Mathlib.Omega.{arith}
use Rattle.ring.proofs.Between.{none_between}
use Rattle.ring.proofs.sum_between.Goals as goal

pub returns-in-None : goal.returns-in-None
returns-in-None c = let s = c.args in none_between s.bytes.now s.a s.e (⊎_elim (λ h. omega arith) (λ h. omega arith) c.in-None.ensures.lookup.0)
