-- `profile::Streams::some_meet` meets its contract.
-- Assumes nothing.
use mathlib.Core.Bool.{true, false}
use mathlib.Core.Path.{refl, ◌∙◌}
use Prim.Native.Nat.{◌≤◌}
use native.Mathlib.Omega.{arith}
use lib.ListN.{length-set, get_or-replicate}
use borrow.Author.Rules.{rules}
use Rattle.places.specs.Places.{some, some_pair}
use Rattle.profile.specs.ProfileClauses.{laid_to}
use Rattle.profile.proofs.UnitMap.{at_row, map-begins, met_begins, map_more, met_more, row_map_on, row_met_on, row_on_map}
use Rattle.profile.proofs.Streams.some_meet.Goals as goal

pub loop-i-init : goal.loop-i-init
unfolding laid_to some some_pair
loop-i-init c = (refl, (λ v l. get_or-replicate 864 v false false l), refl)

pub loop-u-init : goal.loop-u-init
loop-u-init c =
    let o = c.loop-i.invariant in
    let s = c.args.self.now in
    let p = at_row s.highs s.lows c.loop-i.i in
    (o.0, omega arith, map-begins _ p _ c.loop-i.map c.from-u.ensures o.1, met_begins _ p _ _ c.from-u.ensures o.2)

pub bounds-map-u : goal.bounds-map-u
bounds-map-u c =
    let s = c.args.self.now in
    row_on_map s.highs s.lows s.ends s.n c.loop-i.i (search rules) s.ended c.loop-u.u c.requires (omega arith)

pub bounds-map-u-in-loop-u : goal.bounds-map-u-in-loop-u
bounds-map-u-in-loop-u c =
    let s = c.args.self.now in
    row_on_map s.highs s.lows s.ends s.n c.loop-i.i (search rules) s.ended c.loop-u.u c.requires (omega arith)

pub loop-u-preserved : goal.loop-u-preserved
loop-u-preserved c =
    let o = c.loop-u.invariant in
    let s = c.args.self.now in
    let m = c.loop-u.map in
    let p = at_row s.highs s.lows c.loop-i.i in
    let k = row_on_map s.highs s.lows s.ends s.n c.loop-i.i (search rules) s.ended c.loop-u.u c.requires (omega arith) in
    let h : p.sad ≤ c.loop-u.u = omega arith in
    (length-set m _ true ∙ o.0, omega arith, map_more _ p _ m o.0 k h o.2, met_more _ p _ m _ k h o.2 o.3)

pub loop-i-preserved : goal.loop-i-preserved
loop-i-preserved c =
    let o = c.loop-u.invariant in
    let s = c.args.self.now in
    let i = c.loop-i.i in (
      o.0,
      row_map_on s.highs s.lows s.ends s.n i (search rules) s.ended c.loop-u.u (omega arith) (omega arith) o.1 c.loop-u.map o.2,
      row_met_on s.highs s.lows s.ends s.n i (search rules) s.ended c.loop-u.u (omega arith) (omega arith) o.1 c.loop-u.found o.3,
    )
