-- `remade::early` meets its contract.
-- Assumes nothing.
use borrow.Author.Rules.{rules}
use Rattle.octets.proofs.Deciding.{tests}
use Rattle.remade.specs.Remaking.{early_refusal}
use Rattle.remade.proofs.early.Goals as goal

pub returns-then-information-most : goal.returns-then-information-most
unfolding early_refusal
returns-then-information-most c = search (rules, tests)

pub returns-then-output-ne6144 : goal.returns-then-output-ne6144
unfolding early_refusal
returns-then-output-ne6144 c = search (rules, tests)

pub returns-then-level-gt3 : goal.returns-then-level-gt3
unfolding early_refusal
returns-then-level-gt3 c = search (rules, tests)

pub returns-then-most-logical : goal.returns-then-most-logical
unfolding early_refusal
returns-then-most-logical c = search (rules, tests)

pub returns : goal.returns
unfolding early_refusal
returns c = search (rules, tests)
