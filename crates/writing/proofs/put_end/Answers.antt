use Rattle.writing.proofs.Filled.{end_puts}
use borrow.Author.Rules.{rules}
use Rattle.writing.proofs.put_end.Goals as goal

pub returns : goal.returns
returns c =
    end_puts c.args.x c.args.out.now c.args.at (search rules) _ _ _ _ _
    c.put2.ensures
    c.put2-2.ensures
    c.put4.ensures
    c.tist_word.ensures
