use borrow.Author.Rules.{rules}
use Rattle.walk.proofs.Limits.{just_right, outside}
use Rattle.walk.proofs.limit_refusal.Goals as goal

pub returns-then-contains : goal.returns-then-contains
returns-then-contains c = just_right _ (search rules, search rules)

pub returns-else-contains : goal.returns-else-contains
returns-else-contains c = outside _ (λ a. let x = a.0 in let y = a.1 in search rules)
