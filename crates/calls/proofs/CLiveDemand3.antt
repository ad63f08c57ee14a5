-- Demand 3 of a live line as C sees it, both parts, with every limit; what a caller keeps; and the line's end.
-- Assumes nothing.
use mathlib.Core.Bool.{true, false}
use mathlib.Core.List.{List, [], ◌∷◌, ◌++◌, map, map-append}
use mathlib.Core.Path.{◌≡◌, refl, sym, ap, subst, ◌∙◌}
use Prim.Native.Nat.{ℕ, ◌+◌, ◌-◌, ◌*◌, ◌/◌, ◌%◌, ◌^◌, ◌≤◌, ◌<◌}
use native.Mathlib.Omega.{arith}
use borrow.Author.Tests.{le-leb}
use lib.Dec.{eqb}
use lib.ListN.{length, get_or}
use Rattle.octets.specs.Words.{eight_at, bytes8}
use Rattle.octets.proofs.SplitJoin.{join_split}
use Rattle.frame.specs.declared.Header.{Header}
use Rattle.walk.specs.declared.Item.{Item}
use Rattle.walk.specs.declared.Item.TheVariants.{Frame, Lost, Idle, Done}
use Rattle.walk.specs.declared.State.{State}
use Rattle.walk.specs.ItemValues.{frame_kind, done_kind, kind_of, place_of}
use Rattle.walk.specs.Demand3.{EndsIn, UnbrokenIn, Out, out_since, frames_out, periods_out}
use Rattle.live.specs.declared.Told.{Told}
use Rattle.live.specs.declared.Told.TheVariants.{Got, More}
use Rattle.live.specs.Live.{far}
use Rattle.lasting.specs.LiveRuns.{called, needed, Complete}
use Rattle.lasting.proofs.LiveLaws.{run_inside, run_keeps, run_out}
use Rattle.lasting.proofs.LiveDemand3.{live_intact, live_periods}
use Rattle.block.specs.WalkBytes.{told_bytes, state_in}
use Rattle.living.specs.LiveBytes.{more_kind, told_place, live_bytes}
use Rattle.calls.specs.LiveCalls.{Calls, LiveLine, item_bytes, seen_since}
use Rattle.calls.proofs.CLive.{Small, behind, live_is_run, live_allowed, call_is_step, told_place_lem}

more_told : (t : Told) (s : State) → get_or (live_bytes t s) 11 0 ≡ more_kind → (q : ℕ) × (t ≡ More q)
unfolding live_bytes told_bytes
more_told (Got (Frame p h)) s e = absurd (omega arith)
more_told (Got (Lost p n)) s e = absurd (omega arith)
more_told (Got (Idle p)) s e = absurd (omega arith)
more_told (Got (Done p)) s e = absurd (omega arith)
more_told (More q) s e = (q, refl)

done_told : (t : Told) (s : State) → get_or (live_bytes t s) 11 0 ≡ done_kind → t ≡ Got (Done (told_place t))
unfolding live_bytes told_bytes
done_told (Got (Frame p h)) s e = absurd (omega arith)
done_told (Got (Lost p n)) s e = absurd (omega arith)
done_told (Got (Idle p)) s e = absurd (omega arith)
done_told (Got (Done p)) s e = refl
done_told (More q) s e = absurd (omega arith)

-- ---- what C sees, taken apart
pub since_all : (xs : List Out) → out_since 0 xs ≡ xs
unfolding out_since
since_all [] = refl
since_all (x ∷ xs) = rw (le-leb 0 (place_of x.item) (omega arith)) (ap (λ (l : List Out). x ∷ l) (since_all xs))

-- an item seen is one that was handed out, with what is before it and behind it
record Parted (xs : List Out) (b : List ℕ) (ls : List (List ℕ)) : Type 0 where
  earlier : List Out
  one : Out
  later : List Out
  all : xs ≡ earlier ++ (one ∷ later)
  bytes : item_bytes one ≡ b
  rest : map item_bytes later ≡ ls
  place : place_of one.item < 2 ^ 64

one_before : (x : Out) (xs : List Out) (b : List ℕ) (ls : List (List ℕ)) → Parted xs b ls → Parted (x ∷ xs) b ls
one_before x xs b ls P = record { earlier = x ∷ P.earlier; one = P.one; later = P.later; all = ap (λ (l : List Out). x ∷ l) P.all; bytes = P.bytes; rest = P.rest; place = P.place }

parted : (xs : List Out) → Small xs → (es : List (List ℕ)) (b : List ℕ) (ls : List (List ℕ)) → map item_bytes xs ≡ es ++ (b ∷ ls) → Parted xs b ls
unfolding Small
parted [] h [] b ls e = let z : ◌≡◌ {A = ℕ} 0 1 = cc in absurd (omega arith)
parted [] h (c ∷ es) b ls e = let z : ◌≡◌ {A = ℕ} 0 1 = cc in absurd (omega arith)
parted (x ∷ xs) h [] b ls e = record { earlier = []; one = x; later = xs; all = refl; bytes = cc; rest = cc; place = h.0 }
parted (x ∷ xs) h (c ∷ es) b ls e = one_before x xs b ls (parted xs h.1 es b ls (cc))

is_frame_lem : (x : Item) → kind_of x / 1 % 256 ≡ frame_kind → (head : Header) × (x ≡ Frame (place_of x) head)
is_frame_lem (Frame p h) e = (h, refl)
is_frame_lem (Lost p n) e = absurd (omega arith)
is_frame_lem (Idle p) e = absurd (omega arith)
is_frame_lem (Done p) e = absurd (omega arith)

-- what is behind it, where it begins with the items of periods
periods_seen : (came : List ℕ) (p q n : ℕ) (later ys : List Out) (ls : List (List ℕ)) → p ≡ q → map item_bytes later ≡ ls → later ≡ periods_out came (q + 6144) n ++ ys → ls ≡ map item_bytes (periods_out came (p + 6144) n) ++ map item_bytes ys
periods_seen came p q n later ys ls e r z = sym r ∙ ap (map item_bytes) z ∙ map-append item_bytes (periods_out came (q + 6144) n) ys ∙ ap (λ (a : ℕ). map item_bytes (periods_out came (a + 6144) n) ++ map item_bytes ys) (sym e)

-- WHENEVER A CALL SAYS THAT MORE BYTES ARE WANTED
module _ {m r : ℕ} {came w left : List ℕ} {ws : List (List ℕ)} (l : LiveLine m 1 came w ws) (h : length came < far) (c : Calls 1 came w left r) (k : get_or left 11 0 ≡ more_kind) where
  wanted : (q : ℕ) × ((called came true (state_in w)).told ≡ More q)
  wanted = let x = called came true (state_in w) in more_told x.told x.walk (ap (λ (v : List ℕ). get_or v 11 0) (sym (call_is_step l c).1) ∙ k)

  -- LITTLE IS KEPT: fewer than 12,288 bytes of those that came are from the walk's place on, and in lock fewer than 6,144
  pub c_live_keeps : length came < eight_at left 0 + needed (eqb (get_or w 9 0) 1)
  unfolding state_in
  c_live_keeps =
      let (q, e) = wanted in
      let (a, b) = run_keeps (live_allowed l) (live_is_run l).run h q e in
      let p : eight_at left 0 ≡ q = ap (λ (s : State). s.position.place) (call_is_step l c).2 ∙ a in
      rw p b

  -- DEMAND 3, FIRST PART, AS C SEES IT, over the limit m: where what has come ends with more than m intact frames, the calls before have left the bytes of the m-th of them and of each later one, in order, each once, and of nothing else from there on
  pub c_live_intact : (a n : ℕ) → EndsIn came a n → m < n → seen_since (a + (m - 1) * 6144) ws ≡ map item_bytes (frames_out came (a + (m - 1) * 6144) (n - (m - 1)))
  c_live_intact a n E enough =
      let (q, e) = wanted in
      let R = live_is_run l in
      R.seen (a + (m - 1) * 6144) ∙ ap (map item_bytes) (live_intact (live_allowed l) R.run h q e a n E enough)

  -- SECOND PART: a frame that was seen is followed by one item for each period that has come, until as many in a row as the limit are refused for another reason than 4
  pub c_live_periods : (earlier : List (List ℕ)) (b : List ℕ) (later : List (List ℕ)) → seen_since 0 ws ≡ earlier ++ (b ∷ later) → get_or b 0 0 ≡ frame_kind →
      (n : ℕ) → eight_at b 2 + 6144 + n * 6144 ≤ length came → UnbrokenIn m came (eight_at b 2 + 6144) n → (ys : List (List ℕ)) × (later ≡ map item_bytes (periods_out came (eight_at b 2 + 6144) n) ++ ys)
  c_live_periods earlier b later i kind n room u =
      let (q, e) = wanted in
      let B = behind l in
      let R = B.is in
      let P = parted R.outs B.small earlier b later (ap (map item_bytes) (sym (since_all R.outs)) ∙ sym (R.seen 0) ∙ i) in
      let p : eight_at b 2 ≡ place_of P.one.item = ap (λ (v : List ℕ). eight_at v 2) (sym P.bytes) ∙ join_split bytes8 (place_of P.one.item) P.place in
      let (head, f) = is_frame_lem P.one.item (ap (λ (v : List ℕ). get_or v 0 0) P.bytes ∙ kind) in
      let (ys, z) = live_periods (live_allowed l) R.run h q e P.earlier P.one P.later P.all (place_of P.one.item) head f n (rw (← p) room) (rw (← p) u) in
      (map item_bytes ys, periods_seen came (eight_at b 2) (place_of P.one.item) n P.later ys later p P.rest z)

-- .. the first part in the demand's own words: of at least four the third and every later one
pub c_live_demand_3_first : {r : ℕ} {came w left : List ℕ} {ws : List (List ℕ)} → LiveLine 3 1 came w ws → length came < far → Calls 1 came w left r → get_or left 11 0 ≡ more_kind →
    (a n : ℕ) → EndsIn came a n → 4 ≤ n → seen_since (a + 2 * 6144) ws ≡ map item_bytes (frames_out came (a + 2 * 6144) (n - 2))
c_live_demand_3_first l h c k a n E f = c_live_intact l h c k a n E f

-- THE END: where the line has ended and a call says done, C has seen all that the walk over all that came hands out, and that walk says done at the place in the bytes
pub c_live_out : {m r : ℕ} {came w left : List ℕ} {ws : List (List ℕ)} → LiveLine m 0 came w ws → length came < far → Calls 0 came w left r → get_or left 11 0 ≡ done_kind →
    (outs : List Out) × (seen_since 0 ws ≡ map item_bytes outs) × Complete m came outs (eight_at left 13)
c_live_out {m} {came = came} {w} {left} l h c k =
    let R = live_is_run l in
    let x = called came false (state_in w) in
    let d = done_told x.told x.walk (ap (λ (v : List ℕ). get_or v 11 0) (sym (call_is_step l c).1) ∙ k) in
    (R.outs, R.seen 0 ∙ ap (map item_bytes) (since_all R.outs), subst (Complete m came R.outs) (sym (told_place_lem l c)) (run_out R.run h (told_place x.told) d))

-- THE WINDOW BEGINS IN WHAT HAS COME, at every time
pub c_live_inside : {m more : ℕ} {came w : List ℕ} {ws : List (List ℕ)} → LiveLine m more came w ws → length came < far → eight_at w 0 ≤ length came
unfolding state_in
c_live_inside l h = run_inside (live_is_run l).run h
