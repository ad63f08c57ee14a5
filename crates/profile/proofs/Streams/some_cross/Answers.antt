-- `profile::Streams::some_cross` meets its contract.
-- Assumes nothing.
use mathlib.Core.Path.{refl}
use Rattle.places.specs.Places.{some, some_pair}
use Rattle.profile.specs.ProfileClauses.{laid_to}
use Rattle.profile.proofs.Noting.{risen_on}
use borrow.Author.Rules.{rules}
use Rattle.profile.proofs.Streams.some_cross.Goals as goal

pub loop-i-init : goal.loop-i-init
unfolding laid_to some some_pair
loop-i-init c = λ d. (refl, refl)

pub loop-i-preserved : goal.loop-i-preserved
loop-i-preserved c =
    let at = c.loop-i in
    let s = c.args.self.now in
    risen_on s.highs s.lows s.ends _ at.i at.found at.reach _ (search rules) s.ended c.reached-reach.ensures at.invariant
