-- `profile::Notes::with` meets its contract.
-- Assumes nothing.
use Rattle.profile.proofs.Noting.{noted}
use Rattle.profile.proofs.Notes.with.Goals as goal

pub returns : goal.returns
returns c = λ p a b o. noted _ p _ _ _ a b o
