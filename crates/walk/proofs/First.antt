-- Demand 3, the first part, over the limit m: with at least m + 1 intact frames at the record's end, the items from the m-th of them on are these frames, in order, each once.
-- Assumes nothing.
use Prim.Native.Nat.{ℕ, zero, suc, ◌+◌, ◌-◌, ◌*◌, ◌≤◌, ◌<◌}
use mathlib.Core.Path.{◌≡◌, refl, ap, ◌∙◌}
use mathlib.Core.Bool.{Bool, true, false, not}
use mathlib.Core.List.{List, ◌∷◌}
use native.Mathlib.Omega.{arith}
use native.Mathlib.Nat.{zero-add, suc-add, mul-le-mul_right, le_of_mul-le-mul_right}
use native.Mathlib.Decide.{dec_le}
use borrow.Author.Tests.{le-leb, lt-leb}
use Rattle.walk.specs.Walk.{Judged, Fair, Position, Item, frame_at, differ, confirmed, item_at, keeps, items, locked, hunting, begin}
use Rattle.walk.specs.ItemValues.{place_of}
use Rattle.walk.specs.AnyJudging.{Ends, since, frames}
use Rattle.walk.proofs.ByRules.{confirmed_stands, stands_keeps, stands_item, place_item}
use Rattle.walk.proofs.Laws.{items_short, items_kept, items_missed, items_last, items_confirmed, items_passed}

-- what stands earlier than c is not among the items since c
since_earlier : (c : ℕ) (x : Item) (l : List Item) → place_of x < c → since c (x ∷ l) ≡ since c l
unfolding since
since_earlier c x l h = rw (lt-leb c (place_of x) h)

since_frames : (R : Judged) (n c p : ℕ) → c ≤ p → since c (frames R p n) ≡ frames R p n
unfolding since frames
since_frames R zero c p h = refl
since_frames R (suc n) c p h = rw (le-leb c p h) (ap (λ (l : List Item). frame_at R p ∷ l) (since_frames R n c (p + R.period) (omega arith)))

since_later : (R : Judged) → Fair R → (d n c p : ℕ) → c ≡ p + d * R.period → since c (frames R p (d + n)) ≡ frames R c n
unfolding frames
since_later R fair zero n c p e = let q : c ≡ p = omega arith in rw (q, zero-add) (since_frames R n p p (omega arith))
since_later R fair (suc d) n c p e =
    rw suc-add (since_earlier c (frame_at R p) (frames R (p + R.period) (d + n)) (omega arith) ∙ since_later R fair d n c (p + R.period) (omega arith))

confirmed_is : (R : Judged) (p : ℕ) → R.stands p ≡ true → p + R.period + R.period ≤ R.len → R.stands (p + R.period) ≡ true → R.sync (p + R.period) ≡ not (R.sync p) → confirmed R p ≡ true
unfolding confirmed
confirmed_is R p e h e' s = rw (e, le-leb (p + R.period + R.period) R.len h, e', s) (go (R.sync p))
  where
    go : (b : Bool) → differ b (not b) ≡ true
    go true = refl
    go false = refl

-- a run of intact frames to the record's end, the walk in lock on it
on_the_grid : (R : Judged) → Fair R → (d p k : ℕ) → k < R.limit → p + d * R.period ≡ R.len → ((j : ℕ) → j < d → R.stands (p + j * R.period) ≡ true) → items R (locked p k) ≡ frames R p d
unfolding frames
on_the_grid R fair zero p k b e st = items_short R fair.positive (locked p k) (omega arith)
on_the_grid R fair (suc d) p k b e st =
    items_kept R fair.positive p k (omega arith) b (stands_keeps R p here)
    ∙ ap (λ (x : Item). x ∷ items R (locked (p + R.period) 0)) (stands_item R p here)
    ∙ ap (λ (l : List Item). frame_at R p ∷ l)
    (on_the_grid R fair d (p + R.period) 0 (omega arith) (omega arith) (λ j h. rw (let q : p + R.period + j * R.period ≡ p + suc j * R.period = omega arith in q) (st (suc j) (omega arith))))
  where
    here : R.stands p ≡ true
    here = rw (let q : p ≡ p + 0 * R.period = omega arith in q) (st 0 (omega arith))

below : {p q : ℕ} → p ≤ q → (p ≡ q → ⊥) → p < q
below {p} {q} h f = go (dec_le (suc p) q)
  where
    go : Dec (suc p ≤ q) → p < q
    go (yes l) = l
    go (no l) = absurd (f (omega arith))

-- The limit is m + 1, and the intact frames are m + r, r at least 2. The last r of them are promised.
module _ (R : Judged) (fair : Fair R) (a m r : ℕ) (E : Ends R a (m + r)) (limit : R.limit ≡ suc m) (two : 1 < r) where
  abbrev promised : ℕ
  promised = a + m * R.period

  abbrev Good : Position → Type 0
  Good s = since promised (items R s) ≡ frames R promised r

  -- a place from 6,143 bytes before the first on that keeps a lock is an intact frame's
  in_the_zone : (p k : ℕ) → a < p + R.period → p + R.period ≤ R.len → keeps R p ≡ true → p ≤ a + k * R.period → (i : ℕ) × (i ≤ k) × (p ≡ a + i * R.period)
  in_the_zone p k h room st b = let (i, l, q) = E.alone p h room st in (i, le_of_mul-le-mul_right (omega arith) fair.positive, q)

  -- in lock on one of the first m + 1 intact frames
  run : (i k : ℕ) → i ≤ m → k ≤ m → items R (locked (a + i * R.period) k) ≡ frames R (a + i * R.period) (m - i + r)
  run i k h b =
      let e : i + (m - i) ≡ m = omega arith in
      let e' : (i + (m - i)) * R.period ≡ m * R.period = ap (λ (x : ℕ). x * R.period) e in
      on_the_grid R fair (m - i + r) (a + i * R.period) k (omega arith) (omega (arith, E.whole))
      (λ j l. rw (let q : a + i * R.period + j * R.period ≡ a + (i + j) * R.period = omega arith in q) (E.intact (i + j) (omega arith)))

  good_run : (i : ℕ) → i ≤ m → since promised (frames R (a + i * R.period) (m - i + r)) ≡ frames R promised r
  good_run i h =
      let e : i + (m - i) ≡ m = omega arith in
      let e' : (i + (m - i)) * R.period ≡ m * R.period = ap (λ (x : ℕ). x * R.period) e in
      since_later R fair (m - i) r promised (a + i * R.period) (omega arith)

  aligned : (i k p : ℕ) → i ≤ m → k ≤ m → p ≡ a + i * R.period → Good (locked p k)
  aligned i k p h b q = rw (q, run i k h b) (good_run i h)

  promised_confirmed : confirmed R promised ≡ true
  promised_confirmed =
      confirmed_is R promised (E.intact m (omega arith)) (omega (arith, E.whole, mul-le-mul_right R.period two))
      (rw (let q : a + m * R.period + R.period ≡ a + suc m * R.period = omega arith in q) (E.intact (suc m) (omega arith)))
      (rw (let q : a + m * R.period + R.period ≡ a + suc m * R.period = omega arith in q) (E.alternating m (omega arith)))

  -- Both modes together, by induction on f, which is more than the way left to the promised place.
  -- In lock the walk has passed no more intact frames than it has misses, so it finds the phase or hunts again before that place.
  abbrev Locks : ℕ → Type 0
  Locks f = (p k : ℕ) → promised < p + f → k ≤ m → p ≤ a + k * R.period → Good (locked p k)

  abbrev Hunts : ℕ → Type 0
  Hunts f = (p k : ℕ) → promised < p + f → p ≤ promised → Good (hunting p k)

  locks : (f : ℕ) → Locks f → Hunts f → Locks (suc f)
  locks f L H p k h b q = go (keeps R p) refl (dec_le (p + R.period) a)
    where
      km : k * R.period ≤ m * R.period
      km = mul-le-mul_right R.period b

      room : p + R.period ≤ R.len
      room = omega (arith, E.whole, km, mul-le-mul_right R.period two)

      miss : keeps R p ≡ false → p < a + k * R.period
      miss e = below q (λ w. let z : ◌≡◌ {A = ℕ} 0 1 = cc (stands_keeps R (a + k * R.period) (E.intact k (omega arith))) in omega arith)

      lose : keeps R p ≡ false → Dec (k < m) → Good (locked p k)
      lose e (yes l) =
          let h' = miss e in
          rw (items_missed R fair.positive p k room (omega arith) e)
          (since_earlier promised (item_at R p) _ (omega (arith, km, place_item R p)) ∙ L (p + R.period) (k + 1) (omega (arith, km)) (omega arith) (omega arith))
      lose e (no l) =
          let h' = miss e in
          rw (items_last R fair.positive p k room (omega arith) e)
          (since_earlier promised (item_at R p) _ (omega (arith, km, place_item R p)) ∙ H (p + 1) (k + 1) (omega (arith, km)) (omega (arith, km)))

      go : (t : Bool) → keeps R p ≡ t → Dec (p + R.period ≤ a) → Good (locked p k)
      go true e (yes z) =
          rw (items_kept R fair.positive p k room (omega arith) e)
          (since_earlier promised (item_at R p) _ (omega (arith, place_item R p)) ∙ L (p + R.period) 0 (omega arith) (omega arith) (omega arith))
      go true e (no z) = let (i, l, w) = in_the_zone p k (omega arith) room e q in aligned i k p (omega arith) b w
      go false e d = lose e (dec_le (suc k) m)

  hunts : (f : ℕ) → Locks f → Hunts f → Hunts (suc f)
  hunts f L H p k h q = go (confirmed R p) refl (dec_le (p + R.period) a)
    where
      room : p + R.period ≤ R.len
      room = omega (arith, E.whole, mul-le-mul_right R.period two)

      pass : confirmed R p ≡ false → p < promised
      pass e = below q (λ w. let z : ◌≡◌ {A = ℕ} 0 1 = cc promised_confirmed in omega arith)

      go : (t : Bool) → confirmed R p ≡ t → Dec (p + R.period ≤ a) → Good (hunting p k)
      go true e (yes z) =
          rw (items_confirmed R fair.positive p k room e)
          (since_earlier promised (frame_at R p) _ (omega arith) ∙ L (p + R.period) 0 (omega arith) (omega arith) (omega arith))
      go true e (no z) =
          let st = confirmed_stands R p e in
          let (i, l, w) = in_the_zone p m (omega arith) room (stands_keeps R p st) q in
          rw (items_confirmed R fair.positive p k room e, ← stands_item R p st, ← items_kept R fair.positive p 0 room (omega arith) (stands_keeps R p st))
          (aligned i 0 p l (omega arith) w)
      go false e d = rw (items_passed R fair.positive p k room e) (H (p + 1) k (omega arith) (omega (arith, pass e)))

  both : (f : ℕ) → Locks f × Hunts f
  both zero = ((λ p k h b q. absurd (omega (arith, mul-le-mul_right R.period b))), (λ p k h q. absurd (omega arith)))
  both (suc f) = (locks f (both f).0 (both f).1, hunts f (both f).0 (both f).1)

  from_state : (p k : ℕ) (b : Bool) → p ≤ a → (b ≡ true → k ≤ m) → Good (record { place = p; misses = k; lock = b })
  from_state p k true h l = (both (suc promised)).0 p k (omega arith) (l refl) (omega arith)
  from_state p k false h l = (both (suc promised)).1 p k (omega arith) (omega arith)

-- DEMAND 3, FIRST PART, over the limit: from any state that is not past the first intact frame, if it is not in lock with its misses spent
pub intact_from : (R : Judged) → Fair R → (a n : ℕ) → Ends R a n → R.limit < n →
    (s : Position) → s.place ≤ a → (s.lock ≡ true → s.misses < R.limit) →
    since (a + (R.limit - 1) * R.period) (items R s) ≡ frames R (a + (R.limit - 1) * R.period) (n - (R.limit - 1))
intact_from R fair a n E enough s h l =
    let q : R.limit - 1 + (n - (R.limit - 1)) ≡ n = omega arith in
    from_state R fair a (R.limit - 1) (n - (R.limit - 1)) (rw q E) (omega arith) (omega arith) s.place s.misses s.lock h (λ e. omega (arith, l e))

-- so from the start, whatever stands before them
pub intact_handed_out : (R : Judged) → Fair R → (a n : ℕ) → Ends R a n → R.limit < n →
    since (a + (R.limit - 1) * R.period) (items R begin) ≡ frames R (a + (R.limit - 1) * R.period) (n - (R.limit - 1))
intact_handed_out R fair a n E enough = intact_from R fair a n E enough begin (omega arith) (λ e. let z : ◌≡◌ {A = ℕ} 0 1 = cc in absurd (omega arith))
