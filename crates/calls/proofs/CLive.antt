-- A LINE FROM C IS A RUN: each call answers 0 and leaves what live's step hands back, C sees what the run hands out, whatever the pieces are.
-- Assumes nothing.
use mathlib.Core.Bool.{Bool, true, false, ◌&&◌}
use mathlib.Core.List.{List, [], ◌∷◌, ◌++◌, map, map-append}
use mathlib.Core.Path.{◌≡◌, refl, sym, ap, ap₂, subst, ◌∙◌}
use Prim.Native.Nat.{ℕ, ◌+◌, ◌^◌, ◌≤◌, ◌<◌}
use native.Mathlib.Decide.{dec_le}
use native.Mathlib.Omega.{arith}
use lib.Dec.{eqb, leb}
use lib.ListN.{length, get_or, drop}
use Rattle.octets.specs.Choice.{pick}
use Rattle.octets.specs.Words.{eight_at, bytes8}
use Rattle.octets.proofs.SplitJoin.{join_split}
use Rattle.frame.specs.declared.Stream.{Stream}
use Rattle.walk.specs.declared.Item.{Item}
use Rattle.walk.specs.declared.Item.TheVariants.{Frame, Lost, Idle, Done}
use Rattle.walk.specs.declared.State.{State}
use Rattle.walk.specs.ItemValues.{place_of}
use Rattle.walk.specs.Records.{Allowed, step_at}
use Rattle.walk.specs.Demand3.{Out, out_since}
use Rattle.walk.proofs.Limits.{allowed_is, by_limit, number_allowed, limit_kept}
use Rattle.live.specs.declared.LiveStep.{LiveStep}
use Rattle.live.specs.declared.Told.{Told}
use Rattle.live.specs.declared.Told.TheVariants.{Got, More}
use Rattle.live.specs.Live.{at_start, later, later_item, later_step, is_done, wants, spare, telling, telling_at, waiting, waiting_at, over_at, far, live_at}
use Rattle.live.proofs.LiveParts.{far_step, near_step, fits}
use Rattle.lasting.specs.LiveRuns.{handed_by, handed, called, Run, starts, comes, ends, steps}
use Rattle.lasting.proofs.LiveSteps.{spare_inside}
use Rattle.block.specs.WalkBytes.{told_bytes, state_in}
use Rattle.walks.specs.WalkCalls.{begun_bytes, Limited}
use Rattle.walks.proofs.CWalk.{Held, state_back, left_whole, left_lock, answered, begun_begins, few_misses}
use Rattle.living.specs.LiveBytes.{told_place, live_bytes, held_by, live_of, live_refusal_of}
use Rattle.living.proofs.LiveStored.{both_fit}
use Rattle.calls.specs.LiveCalls.{lent_of, Calls, LiveLine, begins, comes, ends, calls, item_bytes, holds_item, seen_since, IsRun}

-- ---- the bytes hold what a step hands back: its walk, and the place of what is told
record Fits (r : LiveStep) : Type 0 where
  walk : Held r.walk
  told : told_place r.told < 2 ^ 64

later_place : (d : ℕ) (x : Item) → place_of (later_item d x) ≡ d + place_of x
unfolding later_item
later_place d (Frame p h) = refl
later_place d (Lost p n) = refl
later_place d (Idle p) = refl
later_place d (Done p) = refl

module _ (w : List ℕ) (more : Bool) (s : State) (h : Held s) where
  near_fits : s.position.place + length w < far → (b : Bool) → Fits (pick b (waiting_at (spare w s.position.lock) s) (telling_at s.position.place (step_at w (at_start s))))
  unfolding waiting waiting_at telling telling_at later_step later
  near_fits near true =
      let p : spare w s.position.lock + s.position.place < 2 ^ 64 = omega (arith, spare_inside w s.position.lock) in
      record { walk = record { place = p; misses = h.misses; limit = h.limit }; told = p }
  near_fits near false =
      let T = fits w s near 0 (omega arith) (step_at w (at_start s)) refl in
      record {
        walk = record { place = T.walk; misses = few_misses w (at_start s) h.misses; limit = rw (limit_kept w (at_start s)) h.limit };
        told = rw (later_place s.position.place (step_at w (at_start s)).item) T.item;
      }

  live_fits : Fits (live_at w more s)
  unfolding over_at
  live_fits = go (dec_le far (s.position.place + length w))
    where
      go : Dec (far ≤ s.position.place + length w) → Fits (live_at w more s)
      go (yes l) = subst Fits (far_step w more s l) (record { walk = h; told = h.place })
      go (no l) =
          let near : s.position.place + length w < far = omega arith in
          rw (near_step w more s near) (near_fits near (is_done (step_at w (at_start s)).item && wants more s.limit s.position.misses s.position.lock))

-- ---- what C sees
seen_join : (c : ℕ) (a b : List (List ℕ)) → seen_since c (a ++ b) ≡ seen_since c a ++ seen_since c b
unfolding seen_since
seen_join c [] b = refl
seen_join c (w ∷ a) b = go (holds_item w && leb c (eight_at w 13)) (seen_join c a b)
  where
    go : (d : Bool) → seen_since c (a ++ b) ≡ seen_since c a ++ seen_since c b → pick d (drop 11 w ∷ seen_since c (a ++ b)) (seen_since c (a ++ b)) ≡ pick d (drop 11 w ∷ seen_since c a) (seen_since c a) ++ seen_since c b
    go true e = ap (λ (l : List (List ℕ)). drop 11 w ∷ l) e
    go false e = e

since_join : (c : ℕ) (a b : List Out) → out_since c (a ++ b) ≡ out_since c a ++ out_since c b
unfolding out_since
since_join c [] b = refl
since_join c (x ∷ a) b = go (leb c (place_of x.item)) (since_join c a b)
  where
    go : (d : Bool) → out_since c (a ++ b) ≡ out_since c a ++ out_since c b → pick d (x ∷ out_since c (a ++ b)) (out_since c (a ++ b)) ≡ pick d (x ∷ out_since c a) (out_since c a) ++ out_since c b
    go true e = ap (λ (l : List Out). x ∷ l) e
    go false e = e

one_item : (c q : ℕ) (x : Out) → q ≡ place_of x.item → pick (leb c q) (item_bytes x ∷ []) [] ≡ map item_bytes (pick (leb c (place_of x.item)) (x ∷ []) [])
one_item c q x e = rw e (go (leb c (place_of x.item)))
  where
    go : (d : Bool) → pick d (item_bytes x ∷ []) [] ≡ map item_bytes (pick d (x ∷ []) [])
    go true = refl
    go false = refl

one_seen : (c : ℕ) (t : Told) (table : List Stream) (s : State) → told_place t < 2 ^ 64 → seen_since c (live_bytes t s ∷ []) ≡ map item_bytes (out_since c (handed_by t table))
unfolding seen_since live_bytes told_bytes handed_by is_done out_since
one_seen c (Got (Frame p h)) table s l = one_item c _ (record { item = Frame p h; table = table }) (join_split bytes8 p l)
one_seen c (Got (Lost p n)) table s l = one_item c _ (record { item = Lost p n; table = table }) (join_split bytes8 p l)
one_seen c (Got (Idle p)) table s l = one_item c _ (record { item = Idle p; table = table }) (join_split bytes8 p l)
one_seen c (Got (Done p)) table s l = refl
one_seen c (More p) table s l = refl

-- all places are numbers of 64 bits
unfoldable pub Small : List Out → Type 0
Small [] = Unit {0}
Small (x ∷ xs) = (place_of x.item < 2 ^ 64) × Small xs

small_join : (a b : List Out) → Small a → Small b → Small (a ++ b)
unfolding Small
small_join [] b h k = k
small_join (x ∷ a) b h k = (h.0, small_join a b h.1 k)

one_small : (t : Told) (table : List Stream) → told_place t < 2 ^ 64 → Small (handed_by t table)
unfolding Small handed_by
one_small (Got x) table l = go (is_done x)
  where
    go : (b : Bool) → Small (pick b [] (record { item = x; table = table } ∷ []))
    go true = tt
    go false = (l, tt)
one_small (More p) table l = tt

-- ---- the walk's bytes, in a line from C
record Sound (more : ℕ) (w : List ℕ) : Type 0 where
  whole : length w ≡ 23
  lock : get_or w 9 0 ≤ 1
  held : Held (state_in w)
  bit : more ≤ 1

module _ (more r : ℕ) (came w left : List ℕ) (S : Sound more w) (c : Calls more came w left r) where
  abbrev step : LiveStep
  step = called came (eqb more 1) (state_in w)

  step_fits : Fits step
  step_fits = live_fits _ (eqb more 1) (state_in w) S.held

  one_call : (r ≡ 0) × (left ≡ held_by step)
  unfolding state_in
  one_call = answered (live_refusal_of more w) (live_of (lent_of came w) more w) w left r c S.whole (both_fit more w S.lock S.bit)

  walk_back : state_in left ≡ step.walk
  unfolding live_bytes
  walk_back = ap state_in one_call.1 ∙ state_back step.walk _ _ _ _ _ step_fits.walk

  next_sound : Sound more left
  unfolding live_bytes
  next_sound =
      record {
        whole = ap length one_call.1 ∙ left_whole step.walk _ _ _ _ _;
        lock = subst (λ (v : List ℕ). get_or v 9 0 ≤ 1) (sym one_call.1) (left_lock step.walk _ _ _ _ _);
        held = subst Held (sym walk_back) step_fits.walk;
        bit = S.bit;
      }

begun_left : {m : ℕ} {was w : List ℕ} → Limited m 23 (begun_bytes m) was w 0 → Allowed m × (w ≡ begun_bytes m)
begun_left {m} l = (allowed_is m (by_limit m _ (λ e. e) (λ e. let n = l.number in number_allowed m (sym (rw e at n)))), l.answer)

-- the limit is allowed, for the walk was begun with it
pub live_allowed : {m more : ℕ} {came w : List ℕ} {ws : List (List ℕ)} → LiveLine m more came w ws → Allowed m
live_allowed (begins l) = (begun_left l).0
live_allowed (comes l piece) = live_allowed l
live_allowed (ends l) = live_allowed l
live_allowed (calls l c) = live_allowed l

sound : {m more : ℕ} {came w : List ℕ} {ws : List (List ℕ)} → LiveLine m more came w ws → Sound more w
unfolding begun_bytes state_in
sound {m} (begins l) =
    let (ok, e) = begun_left l in
    subst (Sound 1) (sym e) (record { whole = refl; lock = omega arith; held = record { place = omega arith; misses = omega arith; limit = omega (arith, ok.1) }; bit = omega arith })
sound (comes l piece) = sound l
sound (ends l) = let S = sound l in record { whole = S.whole; lock = S.lock; held = S.held; bit = omega arith }
sound (calls {more} {r} {came} {w} {left} l c) = next_sound more r came w left (sound l) c

-- A CALL IS A STEP: it answers 0, it leaves the bytes of what live's step hands back over the window of the walk that is in the walk's bytes, and the walk that is then in them is the advanced one
pub call_is_step : {m more r : ℕ} {came w left : List ℕ} {ws : List (List ℕ)} → LiveLine m more came w ws → Calls more came w left r →
    (r ≡ 0) × (left ≡ held_by (called came (eqb more 1) (state_in w))) × (state_in left ≡ (called came (eqb more 1) (state_in w)).walk)
call_is_step {more = more} {r} {came} {w} {left} l c = let S = sound l in let o = one_call more r came w left S c in (o.0, o.1, walk_back more r came w left S c)

-- and the place of what it tells is the one in the bytes that it leaves
pub told_place_lem : {m more r : ℕ} {came w left : List ℕ} {ws : List (List ℕ)} → LiveLine m more came w ws → Calls more came w left r → eight_at left 13 ≡ told_place (called came (eqb more 1) (state_in w)).told
unfolding live_bytes told_bytes
told_place_lem {more = more} {r} {came} {w} {left} l c =
    let S = sound l in
    let x = called came (eqb more 1) (state_in w) in
    ap (λ (v : List ℕ). eight_at v 13) (one_call more r came w left S c).1 ∙ join_split bytes8 (told_place x.told) (step_fits more r came w left S c).told

-- the run behind a line from C, and that its places are small
pub record Behind (m more : ℕ) (came w : List ℕ) (ws : List (List ℕ)) : Type 0 where
  pub is : IsRun m more came w ws
  pub small : Small is.outs

pub behind : {m more : ℕ} {came w : List ℕ} {ws : List (List ℕ)} → LiveLine m more came w ws → Behind m more came w ws
unfolding seen_since out_since Small
behind {m} (begins l) =
    record {
      is = record { outs = []; run = subst (λ (s : State). Run m true [] s []) (sym (ap state_in (begun_left l).1 ∙ begun_begins m)) starts; seen = λ c. refl };
      small = tt;
    }
behind (comes l piece) = let B = behind l in let R = B.is in record { is = record { outs = R.outs; run = comes R.run piece; seen = R.seen }; small = B.small }
behind (ends l) = let B = behind l in let R = B.is in record { is = record { outs = R.outs; run = ends R.run; seen = R.seen }; small = B.small }
behind {m} (calls {more} {r} {came} {w} {left} {ws} l k) =
    let B = behind l in
    let R = B.is in
    let S = sound l in
    let x = called came (eqb more 1) (state_in w) in
    let fit = step_fits more r came w left S k in
    record {
      is =
          record {
            outs = R.outs ++ handed x;
            run = subst (λ (s : State). Run m (eqb more 1) came s (R.outs ++ handed x)) (sym (walk_back more r came w left S k)) (steps R.run);
            seen = λ c.
                seen_join c ws (left ∷ [])
                ∙ ap₂ (λ (a b : List (List ℕ)). a ++ b) (R.seen c) (ap (λ (v : List ℕ). seen_since c (v ∷ [])) (one_call more r came w left S k).1 ∙ one_seen c x.told x.table x.walk fit.told)
                ∙ sym (map-append item_bytes (out_since c R.outs) (out_since c (handed x)))
                ∙ ap (map item_bytes) (sym (since_join c R.outs (handed x)));
          };
      small = small_join R.outs (handed x) B.small (one_small x.told x.table fit.told);
    }

-- A LINE FROM C IS A RUN, so all that is said of runs holds of it
pub live_is_run : {m more : ℕ} {came w : List ℕ} {ws : List (List ℕ)} → LiveLine m more came w ws → IsRun m more came w ws
live_is_run l = (behind l).is
