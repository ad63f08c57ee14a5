-- `profile::scids` meets its contract.
-- Assumes nothing.
use mathlib.Core.List.{[]}
use mathlib.Core.Path.{◌≡◌}
use borrow.Author.Rules.{rules}
use Rattle.profile.specs.ProfileClauses.{total}
use Rattle.profile.proofs.scids.Goals as goal

pub sum-requires-clause-fits : goal.sum-requires-clause-fits
sum-requires-clause-fits c = search (rules, (c.marked.ensures []).at_most)

pub returns : goal.returns
returns c = let e : c.sum.result ≡ total c.marked.result = search rules in λ lows. rw e (c.marked.ensures lows).fewer
