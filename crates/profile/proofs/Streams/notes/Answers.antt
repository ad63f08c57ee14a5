-- `profile::Streams::notes` meets its contract.
-- Assumes nothing.
use mathlib.Core.Path.{refl}
use Rattle.places.specs.Places.{some, some_pair}
use Rattle.profile.specs.ProfileClauses.{laid_to}
use Rattle.profile.proofs.Noting.{noted_on}
use borrow.Author.Rules.{rules}
use Rattle.profile.proofs.Streams.notes.Goals as goal

pub loop-i-init : goal.loop-i-init
unfolding laid_to some some_pair
loop-i-init c = record { sizes = refl; within = refl; apart = λ e. (refl, refl) }

pub loop-i-preserved : goal.loop-i-preserved
loop-i-preserved c = noted_on c.args.self.now.highs c.args.self.now.lows c.args.self.now.ends _ _ _ _ (search rules) c.args.self.now.ended c.loop-i.invariant c.with-notes.ensures
