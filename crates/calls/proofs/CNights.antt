-- A NIGHT'S LOG FROM C: no call of `spindlewren_log_write` with what a step left is refused, and the log of a whole night, of a record or of a live line, is accepted and gives back its entries.
-- Assumes nothing.
use mathlib.Core.Bool.{Bool, true, false, ◌&&◌}
use mathlib.Core.List.{List, [], ◌∷◌, ◌++◌, map}
use mathlib.Core.Path.{◌≡◌, refl, sym, ap, ◌∙◌}
use Prim.Native.Nat.{ℕ, zero, suc, ◌^◌, ◌<◌}
use native.Mathlib.Omega.{arith}
use borrow.Author.Tests.{eqb-false, ne_eqb, leb-true, le-leb}
use lib.Dec.{eqb, leb}
use lib.ListN.{length, get_or, drop}
use Rattle.octets.specs.Choice.{pick}
use Rattle.octets.specs.Words.{eight_at, bytes8}
use Rattle.octets.proofs.Deciding.{both, clash}
use Rattle.octets.proofs.SplitJoin.{join_split}
use Rattle.octets.proofs.Storing.{alone}
use Rattle.frame.specs.declared.Stream.{Stream}
use Rattle.walk.specs.declared.Item.{Item}
use Rattle.refusals.specs.Refusals.{refusal_number}
use Rattle.walk.specs.declared.Item.TheVariants.{Frame, Lost, Idle, Done}
use Rattle.walk.specs.declared.State.{State}
use Rattle.walk.specs.ItemValues.{done_kind, kind_of, place_of}
use Rattle.walk.specs.Records.{Allowed, start, step_at, calls_at}
use Rattle.walk.specs.Demand3.{Out, out_of}
use Rattle.nightlog.specs.Log.{allowed, allowed_entry, lost_code, record_of, log_of, entries_of, log_refusal_of, writing_refusal_of, WritesEntry}
use Rattle.nights.specs.Nights.{entry_of, night_entries}
use Rattle.nights.proofs.Kept.{kept}
use Rattle.nights.proofs.NightLogs.{placed, night_accepted, night_returns}
use Rattle.live.specs.declared.Told.{Told}
use Rattle.live.specs.declared.Told.TheVariants.{Got, More}
use Rattle.live.specs.Live.{is_done, far}
use Rattle.lasting.specs.LiveRuns.{handed_by, called, Run, starts, comes, ends, steps}
use Rattle.lasting.proofs.LiveLaws.{run_faithful}
use Rattle.controller.specs.Boundary.{Told as Answered}
use Rattle.block.specs.WalkBytes.{told_bytes, step_bytes, state_in}
use Rattle.walks.specs.WalkCalls.{left_by, walk_of, begun_bytes, state_refusal_of, Called}
use Rattle.walks.proofs.CWalk.{c_walk}
use Rattle.calls.specs.LiveCalls.{LiveLine, item_bytes, holds_item, seen_since}
use Rattle.calls.specs.NightCalls.{entry_in, entries_in}
use Rattle.calls.proofs.CLive.{live_is_run}
use Rattle.calls.proofs.CLiveDemand3.{since_all}

-- the entry in what C sees of an item is the item's own
entry_seen : (x : Item) (table : List Stream) → place_of x < 2 ^ 64 → allowed_entry (entry_of x) ≡ true → entry_in (item_bytes (record { item = x; table = table })) ≡ entry_of x
unfolding entry_in allowed lost_code
entry_seen (Frame p h) table l ok =
    let (counted, level) = both (leb h.fct 249) (leb h.level 3) ok in
    let a = join_split bytes8 p l in
    let c = alone h.fct (omega (arith, leb-true h.fct 249 counted)) in
    let d = alone h.level (omega (arith, leb-true h.level 3 level)) in
    λ i. record { place = a i; kind = 0; code = c i; level = d i }
entry_seen (Lost p n) table l ok =
    let number = refusal_number n in
    let (few, rest) = both (leb 2 number) _ ok in
    let a = join_split bytes8 p l in
    let c = alone number (omega (arith, leb-true number 10 (both (leb number 10) _ rest).0)) in
    λ i. record { place = a i; kind = 1; code = c i; level = 0xFF }
entry_seen (Idle p) table l ok = let a = join_split bytes8 p l in λ i. record { place = a i; kind = 2; code = 4; level = 0xFF }
entry_seen (Done p) table l ok = clash (sym ok)

-- ---- what a step leaves, and what C sees of it
kind_left : (x : Item) (t : State) → get_or (step_bytes x t) 11 0 ≡ kind_of x
unfolding step_bytes told_bytes
kind_left (Frame p h) t = refl
kind_left (Lost p n) t = refl
kind_left (Idle p) t = refl
kind_left (Done p) t = refl

left_seen : (x : Item) (table : List Stream) (t : State) → drop 11 (step_bytes x t) ≡ item_bytes (record { item = x; table = table })
unfolding step_bytes told_bytes
left_seen x table t = refl

from_0 : (b : Bool) (n : ℕ) → (b && leb 0 n) ≡ b
from_0 true n = le-leb 0 n (omega arith)
from_0 false n = refl

one_left : (x : Item) (table : List Stream) (t : State) (ws : List (List ℕ)) →
    seen_since 0 (step_bytes x t ∷ ws) ≡ pick (eqb (kind_of x) done_kind) (seen_since 0 ws) (item_bytes (record { item = x; table = table }) ∷ seen_since 0 ws)
unfolding seen_since step_bytes told_bytes
one_left x table t ws =
    ap (λ (b : Bool). pick b (drop 11 (step_bytes x t) ∷ seen_since 0 ws) (seen_since 0 ws)) (from_0 (holds_item (step_bytes x t)) (eight_at (step_bytes x t) 13))
    ∙ go x
  where
    go : (x : Item) → pick (holds_item (step_bytes x t)) (drop 11 (step_bytes x t) ∷ seen_since 0 ws) (seen_since 0 ws) ≡ pick (eqb (kind_of x) done_kind) (seen_since 0 ws) (item_bytes (record { item = x; table = table }) ∷ seen_since 0 ws)
    go (Frame p h) = refl
    go (Lost p n) = refl
    go (Idle p) = refl
    go (Done p) = refl

-- ---- what a run hands out is never done
abbrev NoDone : List Out → Type 0
NoDone [] = Unit {0}
NoDone (x ∷ xs) = (kind_of x.item ≡ done_kind → ⊥) × NoDone xs

no_done_join : (a b : List Out) → NoDone a → NoDone b → NoDone (a ++ b)
no_done_join [] b h k = k
no_done_join (x ∷ a) b h k = (h.0, no_done_join a b h.1 k)

one_told : (t : Told) (table : List Stream) → NoDone (handed_by t table)
unfolding handed_by is_done
one_told (Got (Frame p h)) table = (λ e. omega arith, tt)
one_told (Got (Lost p n)) table = (λ e. omega arith, tt)
one_told (Got (Idle p)) table = (λ e. omega arith, tt)
one_told (Got (Done p)) table = tt
one_told (More p) table = tt

no_done : {m : ℕ} {more : Bool} {came : List ℕ} {s : State} {xs : List Out} → Run m more came s xs → NoDone xs
no_done starts = tt
no_done (comes r piece) = no_done r
no_done (ends r) = no_done r
no_done (steps {more} {came} {s} {xs} r) = let x = called came more s in no_done_join xs (handed_by x.told x.table) (no_done r) (one_told x.told x.table)

module _ (bytes : List ℕ) (long : length bytes < 2 ^ 64) where
  step_seen : (s : State) (table : List Stream) → (kind_of (step_at bytes s).item ≡ done_kind → ⊥) → entry_in (item_bytes (record { item = (step_at bytes s).item; table = table })) ≡ entry_of (step_at bytes s).item
  step_seen s table d = entry_seen (step_at bytes s).item table (omega (arith, placed bytes s d)) (kept bytes s d)

  -- calls of `spindlewren_step`
  all_left : (n : ℕ) (s : State) → entries_in (map left_by (calls_at bytes n s)) ≡ night_entries (calls_at bytes n s)
  unfolding calls_at night_entries seen_since
  all_left zero s = refl
  all_left (suc n) s =
      ap (map entry_in) (one_left (step_at bytes s).item (step_at bytes s).table (step_at bytes s).walk (map left_by (calls_at bytes n (step_at bytes s).walk)))
      ∙ go (eqb (kind_of (step_at bytes s).item) done_kind) refl (all_left n (step_at bytes s).walk)
    where
      go : (b : Bool) → eqb (kind_of (step_at bytes s).item) done_kind ≡ b → entries_in (map left_by (calls_at bytes n (step_at bytes s).walk)) ≡ night_entries (calls_at bytes n (step_at bytes s).walk) →
          map entry_in (pick b (seen_since 0 (map left_by (calls_at bytes n (step_at bytes s).walk))) (item_bytes (record { item = (step_at bytes s).item; table = (step_at bytes s).table }) ∷ seen_since 0 (map left_by (calls_at bytes n (step_at bytes s).walk))))
          ≡ pick b (night_entries (calls_at bytes n (step_at bytes s).walk)) (entry_of (step_at bytes s).item ∷ night_entries (calls_at bytes n (step_at bytes s).walk))
      go true e ih = ih
      go false e ih = let a = step_seen s (step_at bytes s).table (eqb-false _ done_kind e) in λ i. a i ∷ ih i

  -- what a run hands out
  all_handed : (n : ℕ) (s : State) → NoDone (map out_of (calls_at bytes n s)) → map entry_in (map item_bytes (map out_of (calls_at bytes n s))) ≡ night_entries (calls_at bytes n s)
  unfolding calls_at night_entries
  all_handed zero s d = refl
  all_handed (suc n) s (d, ds) =
      let a = step_seen s (step_at bytes s).table d in
      let b = all_handed n (step_at bytes s).walk ds in
      rw (ne_eqb (kind_of (step_at bytes s).item) done_kind d) (λ i. a i ∷ b i)

  -- over any walk's bytes: what a call of the step left, if it is not done, is written into sixteen bytes, and is the item's own record
  pub c_kept : (w left : List ℕ) → Answered 23 (state_refusal_of w) (walk_of bytes w) w left 0 → (get_or left 11 0 ≡ done_kind → ⊥) →
      (was after : List ℕ) (r : ℕ) → length was ≡ 16 → WritesEntry (entry_in (drop 11 left)) was after r →
      (r ≡ 0) × (after ≡ record_of (entry_of (step_at bytes (state_in w)).item))
  unfolding writing_refusal_of
  c_kept w left t d was after r whole o =
      let s = state_in w in
      let x = (step_at bytes s).item in
      let l : left ≡ left_by (step_at bytes s) = t.answer ∙ rw (← t.number) in
      let n : kind_of x ≡ done_kind → ⊥ = λ e. d (ap (λ (v : List ℕ). get_or v 11 0) l ∙ kind_left x (step_at bytes s).walk ∙ e) in
      let e : entry_in (drop 11 left) ≡ entry_of x = ap (λ (v : List ℕ). entry_in (drop 11 v)) l ∙ ap entry_in (left_seen x [] (step_at bytes s).walk) ∙ step_seen s [] n in
      let z : writing_refusal_of (entry_in (drop 11 left)) (length was) ≡ 0 = rw (e, whole, kept bytes s n) in
      (o.number ∙ z, o.output ∙ rw (z, e))

  module _ (m : ℕ) (ok : Allowed m) (ws : List (List ℕ)) (c : Called bytes (begun_bytes m) ws) where
    night : entries_in ws ≡ night_entries (calls_at bytes (length ws) (start m))
    night = ap entries_in (c_walk bytes long m ok ws c) ∙ all_left (length ws) (start m)

    -- A NIGHT: of a walk begun, the log of what any number of calls left is neither refused with 28 nor with 29
    pub c_night_accepted : log_refusal_of (log_of (entries_in ws)) ≡ 0
    c_night_accepted = rw night (night_accepted bytes (length ws) (start m))

    pub c_night_returns : entries_of (log_of (entries_in ws)) ≡ entries_in ws
    c_night_returns = rw night (night_returns bytes (length ws) (start m) long)

-- A NIGHT OF A LIVE LINE, whatever the pieces were: its entries are those of the walk over all that has come
module _ {m more : ℕ} {came w : List ℕ} {ws : List (List ℕ)} (line : LiveLine m more came w ws) (near : length came < far) where
  pub c_live_night : (n : ℕ) × (entries_in ws ≡ night_entries (calls_at came n (start m)))
  c_live_night =
      let R = live_is_run line in
      let F = run_faithful R.run near in
      let xs = R.outs in (
        length xs,
        ap (map entry_in) (R.seen 0 ∙ ap (map item_bytes) (since_all xs ∙ sym F.outs))
            ∙ all_handed came (omega arith) (length xs) (start m) (rw F.outs (no_done R.run)),
      )

  pub c_live_night_accepted : log_refusal_of (log_of (entries_in ws)) ≡ 0
  c_live_night_accepted = let (n, e) = c_live_night in rw e (night_accepted came n (start m))

  pub c_live_night_returns : entries_of (log_of (entries_in ws)) ≡ entries_in ws
  c_live_night_returns = let (n, e) = c_live_night in rw e (night_returns came n (start m) (omega arith))
