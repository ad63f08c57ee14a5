use mathlib.Core.Path.{refl}
use Rattle.remade.proofs.Remade.{made_all}
use Rattle.remade.proofs.made.Goals as goal

pub returns : goal.returns
returns c = made_all _ _ _ c.args.information.now c.args.start c.args.logical refl c.put4.ensures c.copy_from_slice.ensures.after c.requires.0 c.requires.1
