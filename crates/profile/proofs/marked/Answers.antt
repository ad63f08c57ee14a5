-- `profile::marked` meets its contract.
-- Assumes nothing.
use mathlib.Core.Bool.{true}
use mathlib.Core.Path.{◌≡◌, refl, ap, ◌∙◌}
use Prim.Native.Nat.{ℕ, ◌/◌, ◌%◌, ◌<◌}
use native.Mathlib.Omega.{arith}
use borrow.Author.Rules.{rules}
use lib.ListN.{get_or, length-set}
use Rattle.std.proofs.lemmas.List.{get_or-take}
use Rattle.profile.specs.ProfileClauses.{laid_to}
use Rattle.profile.proofs.ScidMarks.{tallied_none, tallied_on}
use Rattle.profile.proofs.marked.Goals as goal

pub loop-high-init : goal.loop-high-init
unfolding laid_to
loop-high-init c = (refl, λ lows. tallied_none)

pub loop-high-preserved : goal.loop-high-preserved
loop-high-preserved c =
    let highs = c.args.highs.now in
    let i = c.loop-high.high-index in
    let o = c.loop-high.invariant in
    let l : i < c.args.n = omega arith in
    let e : c.from.result ≡ get_or highs i 0 / 1024 % 64 = c.from.ensures ∙ ap (λ (x : ℕ). x / 1024 % 64) (get_or-take c.args.n highs i 0 l) in
    rw e (length-set c.loop-high.marks _ true ∙ o.0, λ lows. tallied_on highs lows c.loop-high.marks i o.0 (o.1 lows))

pub returns : goal.returns
returns c = let e : c.loop-high.high-index ≡ c.args.n = search rules in rw (← e) c.loop-high.invariant.1
