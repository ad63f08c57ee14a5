use borrow.Author.Rules.{rules}
use Rattle.code.proofs.CodeRegisters.{divided}
use Rattle.code.proofs.divide.Goals as goal

pub returns : goal.returns
returns g c q k m = divided g.row.R c.args.rest _ c.args.b c.args.multiples.now q c.requires.0 c.requires.1 (search rules) k m c.multiple.ensures
