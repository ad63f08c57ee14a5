-- `collision::two_by` meets its contract.
-- Assumes nothing.
use Rattle.places.specs.Places.{same_scid, unsized, beyond, meets}
use Rattle.refusals.specs.declared.Refusal.TheVariants.{EqualScids, NoSize, Beyond, Overlap}
use Rattle.refusals.proofs.Numbers.{number_fixed}
use Rattle.collision.specs.Collisions.{two_by}
use Rattle.collision.proofs.ByNumber.{by_other}
use Rattle.collision.proofs.two_by.Goals as goal

pub returns-in-EqualScids : goal.returns-in-EqualScids
unfolding two_by
returns-in-EqualScids c = rw c.in-EqualScids.is (c.pair.ensures same_scid (λ p q r e. e.2))

pub returns-in-NoSize : goal.returns-in-NoSize
unfolding two_by
returns-in-NoSize c = rw c.in-NoSize.is (c.alone.ensures unsized (λ p r e. e.1))

pub returns-in-Beyond : goal.returns-in-Beyond
unfolding two_by
returns-in-Beyond c = rw c.in-Beyond.is (c.alone-in-Beyond.ensures beyond (λ p r e. e.1))

pub returns-in-Overlap : goal.returns-in-Overlap
unfolding two_by
returns-in-Overlap c = rw c.in-Overlap.is (c.pair-in-Overlap.ensures meets (λ p q r e. e.2))

pub returns-in_default : goal.returns-in_default
returns-in_default c =
    let n = c.in_default in
    by_other _ _ _ (λ e. n.not-EqualScids (number_fixed _ EqualScids e)) (λ e. n.not-NoSize (number_fixed _ NoSize e)) (λ e. n.not-Beyond (number_fixed _ Beyond e)) (λ e. n.not-Overlap (number_fixed _ Overlap e))
