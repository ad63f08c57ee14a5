-- The walk's step over a window and over the whole line: the same item, table and walk, by their places in the line.
-- Assumes nothing.
use Prim.Native.Nat.{ℕ, ◌+◌, ◌≤◌, ◌<◌}
use mathlib.Core.Path.{◌≡◌, refl, sym, ap, ◌∙◌}
use mathlib.Core.Bool.{Bool, true, false}
use mathlib.Core.List.{List}
use mathlib.Core.Logic.{◌⊎◌, inl, inr}
use native.Mathlib.Decide.{dec_le}
use native.Mathlib.Omega.{arith}
use lib.Dec.{lit<, ltb, eqb}
use lib.ListN.{length}
use borrow.Author.Tests.{ltb-true, ltb-false}
use Rattle.octets.specs.Choice.{pick}
use Rattle.frame.specs.Rules.{refusal_of}
use Rattle.walk.specs.declared.Item.{Item}
use Rattle.refusals.specs.Refusals.{refusal_by}
use Rattle.walk.specs.declared.Item.TheVariants.{Frame, Lost, Idle, Done}
use Rattle.walk.specs.declared.Position.{Position}
use Rattle.walk.specs.declared.State.{State}
use Rattle.walk.specs.declared.Step.{Step}
use Rattle.walk.specs.Walk.{Stepped, frame_at, item_at, keeps, confirmed, hunting, locked, step_of}
use Rattle.walk.specs.Records.{part, judged, Allowed, allowed, within, table_of, step_with, step_at}
use Rattle.walk.specs.Truth.{Over, ItemTrue}
use Rattle.walk.proofs.Laws.{step_short, step_spent, step_kept, step_missed, step_last, step_confirmed}
use Rattle.walk.proofs.Limits.{by_limit, step_is, step_outside}
use Rattle.walk.proofs.Onward.{Passed, passed_step}
use Rattle.walk.proofs.Truth.{step_true, done_there}
use Rattle.live.specs.Live.{later, later_item, later_step, is_done}
use Rattle.lasting.proofs.Sights.{Sees, Found, found, confirmed_room, confirmed_same, passed_same}

abbrev later_position : ℕ → Position → Position
later_position d s = record { place = d + s.place; misses = s.misses; lock = s.lock }

unfoldable later_stepped : ℕ → Stepped → Stepped
later_stepped d r = record { item = later_item d r.item; walk = later_position d r.walk }

done_both : (d : ℕ) (s : Position) (r q : Stepped) → q ≡ record { item = Done (d + s.place); walk = later_position d s } → r ≡ record { item = Done s.place; walk = s } → q ≡ later_stepped d r
unfolding later_stepped later_item
done_both d s r q a b = a ∙ ap (later_stepped d) (sym b)

-- a step that is done is not sure in the window
not_sure : (r : Stepped) (s : Position) → r ≡ record { item = Done s.place; walk = s } → is_done r.item ≡ false → ⊥
unfolding is_done
not_sure r s e n = let z : true ≡ false = sym (ap (λ (x : Stepped). is_done x.item) e) ∙ n in let y : ◌≡◌ {A = ℕ} 0 1 = cc in omega arith

module _ (m : ℕ) {d : ℕ} {w v : List ℕ} (S : Sees d w v) where
  -- what the window decides: an item in it; and all, where it goes to the end
  abbrev Sure : Item → Type 0
  Sure x = (is_done x ≡ false) ⊎ (length v ≡ d + length w)

  item_later : (p : ℕ) → p + 6144 ≤ length w → item_at (judged m v) (d + p) ≡ later_item d (item_at (judged m w) p)
  unfolding item_at judged later_item
  item_later p h = rw (S.same p h) (go (eqb (refusal_of (part w p)) 0) (eqb (refusal_of (part w p)) 4))
    where
      go : (a b : Bool) →
          pick a (Frame (d + p) ((judged m w).header p)) (pick b (Idle (d + p)) (Lost (d + p) (refusal_by (refusal_of (part w p)))))
          ≡ later_item d (pick a (frame_at (judged m w) p) (pick b (Idle p) (Lost p (refusal_by (refusal_of (part w p))))))
      go true b = refl
      go false true = refl
      go false false = refl

  keeps_same : (p : ℕ) → p + 6144 ≤ length w → keeps (judged m v) (d + p) ≡ keeps (judged m w) p
  unfolding keeps judged
  keeps_same p h = rw (S.same p h) refl

  frame_later : (p : ℕ) → p + 6144 ≤ length w → frame_at (judged m v) (d + p) ≡ later_item d (frame_at (judged m w) p)
  unfolding judged later_item
  frame_later p h = rw (S.same p h) refl

  -- the step from the look, in both
  one_look : (x y : Item) (a b : Position) (r q : Stepped) → q ≡ record { item = y; walk = b } → r ≡ record { item = x; walk = a } → y ≡ later_item d x → b ≡ later_position d a → q ≡ later_stepped d r
  unfolding later_stepped
  one_look x y a b r q e f i p = e ∙ (λ j. record { item = i j; walk = p j }) ∙ ap (later_stepped d) (sym f)

  -- IN LOCK
  lock_later : (p k : ℕ) → Sure (step_of (judged m w) (locked p k)).item → step_of (judged m v) (locked (d + p) k) ≡ later_stepped d (step_of (judged m w) (locked p k))
  unfolding judged
  lock_later p k sure = go (dec_le m k) (dec_le (p + 6144) (length w)) sure
    where
      whole : Stepped
      whole = step_of (judged m v) (locked (d + p) k)

      shown : Stepped
      shown = step_of (judged m w) (locked p k)

      a : d + p + 6144 ≡ d + (p + 6144)
      a = omega arith

      inside : k < m → p + 6144 ≤ length w → (b : Bool) → keeps (judged m w) p ≡ b → (l : Bool) → ltb (k + 1) m ≡ l → whole ≡ later_stepped d shown
      inside few room true e l f =
          one_look _ _ _ _ _ _ (step_kept (judged m v) (lit< tt) (d + p) k (omega (arith, S.room)) few (keeps_same p room ∙ e)) (step_kept (judged m w) (lit< tt) p k room few e) (item_later p room) (ap (λ (i : ℕ). locked i 0) a)
      inside few room false e true f =
          let h = ltb-true (k + 1) m f in
          one_look _ _ _ _ _ _ (step_missed (judged m v) (lit< tt) (d + p) k (omega (arith, S.room)) h (keeps_same p room ∙ e)) (step_missed (judged m w) (lit< tt) p k room h e) (item_later p room) (ap (λ (i : ℕ). locked i (k + 1)) a)
      inside few room false e false f =
          let g = ltb-false (k + 1) m f in
          let h : k + 1 ≡ m = omega arith in
          one_look _ _ _ _ _ _ (step_last (judged m v) (lit< tt) (d + p) k (omega (arith, S.room)) h (keeps_same p room ∙ e)) (step_last (judged m w) (lit< tt) p k room h e) (item_later p room) (ap (λ (i : ℕ). hunting i (k + 1)) (let q : d + p + 1 ≡ d + (p + 1) = omega arith in q))

      outside : length w < p + 6144 → Sure shown.item → whole ≡ later_stepped d shown
      outside h (inl n) = absurd (not_sure shown (locked p k) (step_short (judged m w) (lit< tt) (locked p k) h) n)
      outside h (inr l) = done_both d (locked p k) shown whole (step_short (judged m v) (lit< tt) (locked (d + p) k) (omega arith)) (step_short (judged m w) (lit< tt) (locked p k) h)

      go : Dec (m ≤ k) → Dec (p + 6144 ≤ length w) → Sure shown.item → whole ≡ later_stepped d shown
      go (yes h) x y = done_both d (locked p k) shown whole (step_spent (judged m v) (lit< tt) (d + p) k h) (step_spent (judged m w) (lit< tt) p k h)
      go (no h) (yes l) y = inside (omega arith) l (keeps (judged m w) p) refl (ltb (k + 1) m) refl
      go (no h) (no l) y = outside (omega arith) y

  -- HUNTING
  hunt_later : (p k : ℕ) → Sure (step_of (judged m w) (hunting p k)).item → step_of (judged m v) (hunting (d + p) k) ≡ later_stepped d (step_of (judged m w) (hunting p k))
  unfolding judged
  hunt_later p k sure = go F.why sure
    where
      F : Found m w p
      F = found m w p

      e : ℕ
      e = F.end

      on : step_of (judged m w) (hunting p k) ≡ step_of (judged m w) (hunting e k)
      on = passed_step m w k F.passed

      at_end : Passed m v (d + p) (d + e) → step_of (judged m v) (hunting (d + e) k) ≡ later_stepped d (step_of (judged m w) (hunting e k)) → step_of (judged m v) (hunting (d + p) k) ≡ later_stepped d (step_of (judged m w) (hunting p k))
      at_end P q = passed_step m v k P ∙ q ∙ ap (later_stepped d) (sym on)

      go : (confirmed (judged m w) e ≡ true) ⊎ (length w < e + 6144) → Sure (step_of (judged m w) (hunting p k)).item → step_of (judged m v) (hunting (d + p) k) ≡ later_stepped d (step_of (judged m w) (hunting p k))
      go (inl c) y =
          let room = confirmed_room m w e c in
          at_end (passed_same m S p e (λ i a b. absurd (omega arith)) F.passed)
          (one_look _ _ _ _ _ _ (step_confirmed (judged m v) (lit< tt) (d + e) k (omega (arith, S.room)) (confirmed_same m S e room ∙ c)) (step_confirmed (judged m w) (lit< tt) e k (omega arith) c) (frame_later e (omega arith)) (ap (λ (i : ℕ). locked i 0) (let q : d + e + 6144 ≡ d + (e + 6144) = omega arith in q)))
      go (inr h) (inl n) = absurd (not_sure _ (hunting e k) (on ∙ step_short (judged m w) (lit< tt) (hunting e k) h) n)
      go (inr h) (inr l) =
          at_end (passed_same m S p e (λ i a b. l) F.passed)
          (done_both d (hunting e k) _ _ (step_short (judged m v) (lit< tt) (hunting (d + e) k) (omega arith)) (step_short (judged m w) (lit< tt) (hunting e k) h))

  position_later : (s : Position) → Sure (step_of (judged m w) s).item → step_of (judged m v) (later_position d s) ≡ later_stepped d (step_of (judged m w) s)
  position_later s sure = go s.lock sure
    where
      go : (b : Bool) → Sure (step_of (judged m w) (record { place = s.place; misses = s.misses; lock = b })).item →
          step_of (judged m v) (record { place = d + s.place; misses = s.misses; lock = b }) ≡ later_stepped d (step_of (judged m w) (record { place = s.place; misses = s.misses; lock = b }))
      go true y = lock_later s.place s.misses y
      go false y = hunt_later s.place s.misses y

-- the tables
table_later : {d : ℕ} {w v : List ℕ} (S : Sees d w v) (s : State) (x : Item) (t : State) → ItemTrue w s x t → table_of v (later_item d x) ≡ table_of w x
unfolding table_of later_item
table_later S s (Frame p h) t T = rw (S.same p T.fits) refl
table_later S s (Lost p n) t T = refl
table_later S s (Idle p) t T = refl
table_later S s (Done p) t T = refl

with_later : {d : ℕ} {w v : List ℕ} (S : Sees d w v) (s : State) (x : Item) (t : State) → ItemTrue w s x t → step_with v (later_item d x) (later d t) ≡ later_step d (step_with w x t)
unfolding step_with later_step
with_later {d} S s x t T = λ i. record { item = later_item d x; table = table_later S s x t T i; walk = later d t }

-- THE STEP OVER A WINDOW IS THE STEP OVER THE WHOLE, where it gives an item, and where the window goes to the end
pub step_later : {d : ℕ} {w v : List ℕ} (S : Sees d w v) (s : State) → (is_done (step_at w s).item ≡ false) ⊎ (length v ≡ d + length w) → step_at v (later d s) ≡ later_step d (step_at w s)
unfolding later later_stepped step_with later_item is_done
step_later {d} {w} {v} S s sure = by_limit s.limit _ (λ e. inside e) (λ e. outside e)
  where
    inside : allowed s.limit ≡ true → step_at v (later d s) ≡ later_step d (step_at w s)
    inside e =
        let y : (is_done (step_of (judged s.limit w) s.position).item ≡ false) ⊎ (length v ≡ d + length w) = rw (step_is w s.limit e s.position) at sure in
        step_is v s.limit e (later_position d s.position)
        ∙ ap (λ (r : Stepped). step_with v r.item (within s.limit r.walk)) (position_later s.limit S s.position y)
        ∙ with_later S s _ _ (rw (step_is w s.limit e s.position) at (step_true w s))
        ∙ ap (later_step d) (sym (step_is w s.limit e s.position))

    outside : allowed s.limit ≡ false → step_at v (later d s) ≡ later_step d (step_at w s)
    outside e = step_outside v (later d s) e ∙ with_later S s (Done s.position.place) s (rw (step_outside w s e) at (step_true w s)) ∙ ap (later_step d) (sym (step_outside w s e))

-- A WALK THAT HAS ENDED BY ITSELF is done in both
pub spent_later : {d : ℕ} {w v : List ℕ} (S : Sees d w v) (s : State) → (Allowed s.limit → ⊥) ⊎ ((s.position.lock ≡ true) × (s.limit ≤ s.position.misses)) → step_at v (later d s) ≡ later_step d (step_at w s)
unfolding later later_item
spent_later {d} {w} {v} S s o =
    done_there v (later d s) (over v (later d s) o)
    ∙ with_later S s (Done s.position.place) s (record { place = refl; over = over w s o; first = inl refl })
    ∙ ap (later_step d) (sym (done_there w s (over w s o)))
  where
    over : (bytes : List ℕ) (t : State) → (Allowed t.limit → ⊥) ⊎ ((t.position.lock ≡ true) × (t.limit ≤ t.position.misses)) → Over bytes t
    over bytes t (inl x) = inl x
    over bytes t (inr x) = inr (inr x)

-- WHERE THE HUNT SHOWS NOTHING, all places with two periods in the window are passed
pub hunt_clear : (m : ℕ) (w : List ℕ) → allowed m ≡ true → (k : ℕ) → is_done (step_at w (within m (hunting 0 k))).item ≡ true → (e : ℕ) → e + 6143 ≤ length w → Passed m w 0 e
unfolding is_done step_with judged
hunt_clear m w ok k n e h = go F.why
  where
    F : Found m w 0
    F = found m w 0

    go : (confirmed (judged m w) F.end ≡ true) ⊎ (length w < F.end + 6144) → Passed m w 0 e
    go (inl c) =
        let r = confirmed_room m w F.end c in
        let q : (step_at w (within m (hunting 0 k))).item ≡ frame_at (judged m w) F.end
        = ap (λ (x : Step). x.item) (step_is w m ok (hunting 0 k)) ∙ ap (λ (x : Stepped). x.item) (passed_step m w k F.passed ∙ step_confirmed (judged m w) (lit< tt) F.end k (omega arith) c) in
        let z : true ≡ false = sym n ∙ ap is_done q in let y : ◌≡◌ {A = ℕ} 0 1 = cc in absurd (omega arith)
    go (inr l) = record { ahead = omega arith; room = λ p x y. omega arith; clear = λ p x y. F.passed.clear p x (omega arith) }
