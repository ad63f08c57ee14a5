-- `profile::judge` meets its contract.
-- Assumes nothing.
use Rattle.std.proofs.lemmas.Result.{err_from_is_err_and}
use lib.Seq.{take_all, length-take-le}
use mathlib.Core.List.{List}
use mathlib.Core.Path.{sym, refl, ap, ◌∙◌}
use Rattle.frame.specs.Rules.{first}
use Rattle.places.specs.declared.Place.{Place}
use Rattle.places.specs.Places.{place_rules}
use Rattle.frame.proofs.Accepting.{judged}
use Rattle.refusals.proofs.Numbers.{above_zero}
use Rattle.profile.proofs.Pairs.{profile_refused, profile_judged}
use native.Mathlib.Omega.{arith}
use Rattle.profile.proofs.judge.Goals as goal

pub returns-in_err-judge : goal.returns-in_err-judge
returns-in_err-judge c =
    let p = err_from_is_err_and c.from_residual.result c.from_residual.ensures.1 in
    rw (p.1, p.2) (profile_refused _ _ c.in_err-judge.ensures (above_zero _))

pub slice_bounds-of-end : goal.slice_bounds-of-end
slice_bounds-of-end c = sym (length-take-le 6144 c.args.frame.now (omega (arith, (judged _ 0 c.in_ok-judge.ensures refl).whole)))

pub of-requires : goal.of-requires
of-requires c = omega (arith, c.from.ensures, c.fc-fc.ensures.nst, (judged _ 0 c.in_ok-judge.ensures refl).streams)

pub returns-in_err-of : goal.returns-in_err-of
returns-in_err-of c =
    let y = c.in_ok-judge.ensures in
    let p = err_from_is_err_and c.from_residual-in_err-of.result c.from_residual-in_err-of.ensures.1 in
    rw (p.1, p.2) (profile_judged _ 0 y refl _ _ _ (take_all 6144 _ (omega (arith, (judged _ 0 y refl).whole))) (c.from.ensures ∙ c.fc-fc.ensures.nst) c.in_err-of.ensures)

pub returns : goal.returns
returns c =
    let e = c.in_ok-judge.ensures in
    profile_judged _ 0 e refl _ _ _ (take_all 6144 _ (omega (arith, (judged _ 0 e refl).whole))) (c.from.ensures ∙ c.fc-fc.ensures.nst) (c.judge-2.ensures ∙ ap (λ (ps : List Place). first (place_rules ps)) c.in_ok-of.ensures.1)
