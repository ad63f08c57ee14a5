use mathlib.Core.Path.{refl, ap, ◌∙◌}
use native.Mathlib.Omega.{arith}
use Rattle.octets.specs.Stores.{put}
use Rattle.array.proofs.Filling.{filled_none, filled_more, filled_all}
use Rattle.homeward.specs.BackClauses.{stepped}
use Rattle.homeward.proofs.Unplacing.{part_put, part_length}
use Rattle.homeward.proofs.put_each.Goals as goal

pub loop-m-init : goal.loop-m-init
loop-m-init c = filled_none _ 0 _ _ (part_length c.args.out.now c.args.at c.args.n c.requires.room)

pub loop-m-preserved : goal.loop-m-preserved
loop-m-preserved c = filled_more _ 0 _ _ c.loop-m.m _ c.loop-m.invariant (omega (arith, c.loop-m.invariant.size)) refl

pub returns : goal.returns
unfolding stepped
returns c =
    let F = c.loop-m.invariant in
    part_put c.args.out.now _ c.args.at c.args.n c.requires.room F.size
    ∙ ap (put c.args.out.now c.args.at) (filled_all _ 0 _ _ c.loop-m.m F (omega (arith, F.size)))
