use borrow.Author.Rules.{rules}
use Rattle.reasons.proofs.Asked.{reason_stored}
use Rattle.reasons.proofs.put_reason.Goals as goal

pub returns : goal.returns
returns c =
    reason_stored c.args.reason c.args.out.now _ _ _ _ _ c.requires (search rules) (search rules) c.numbers_of-numbers.ensures c.put_bytes.ensures c.put8.ensures
