-- `profile::Streams::of` meets its contract.
-- Assumes nothing.
use mathlib.Core.List.{List}
use mathlib.Core.Path.{refl, ap, ◌∙◌}
use borrow.Author.Rules.{rules}
use Rattle.frame.specs.Rules.{first}
use Rattle.places.specs.declared.Place.{Place}
use Rattle.places.specs.Places.{place_rules}
use Rattle.profile.specs.ProfileClauses.{Halved}
use Rattle.profile.proofs.Noting.{told_30}
use Rattle.profile.proofs.Tables.{laid_places}
use Rattle.profile.proofs.Streams.of.Goals as goal

pub returns-then-scids-n : goal.returns-then-scids-n
returns-then-scids-n c =
    let h : Halved c.args.frame.now c.loop-i.highs c.loop-i.lows = search rules in
    told_30 _ _ _ (c.scids.ensures c.loop-i.lows) c.if-scids-n.true ∙ ap (λ (ps : List Place). first (place_rules ps)) (laid_places _ _ _ _ c.requires h)

pub returns : goal.returns
returns c =
    let h : Halved c.args.frame.now c.loop-i.highs c.loop-i.lows = search rules in
    (refl, laid_places _ _ _ _ c.requires h)
