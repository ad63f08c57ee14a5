-- The walk always ends, a walk that is done stays done, repeated steps hand back the walk's items in order, then done, and a frame is followed by the items in lock.
-- Assumes nothing.
use Prim.Native.Nat.{ℕ, zero, suc, ◌+◌, ◌-◌, ◌≤◌, ◌<◌}
use mathlib.Core.Path.{◌≡◌, refl, ap, sym, ◌∙◌}
use mathlib.Core.Bool.{true, false}
use mathlib.Core.List.{List, [], ◌∷◌, ◌++◌, append_assoc}
use mathlib.Core.Option.{Option, none, some}
use native.Mathlib.Omega.{arith}
use native.Mathlib.Nat.{suc-add, zero-add}
use lib.ListN.{length, take, replicate, length-append}
use lib.Seq.{take-append_seam}
use Rattle.frame.specs.declared.Header.{Header}
use Rattle.walk.specs.Walk.{Judged, Position, Item, Frame, Done, Stepped, locked, live, look, left, looks, giving, items_of, items, step_by, step_of, rest, calls}
use Rattle.walk.proofs.ByRules.{never_done, frame_locks}
use Rattle.walk.proofs.Looks.{length-looks, items_dead, items_live, step_dead, step_live, rest_dead, rest_live, walk_ind}

module _ (R : Judged) (positive : 0 < R.period) where
  -- THE WALK ENDS: from s on at most one look, and at most one item, for each place whose bytes exist
  pub looks_bounded : (s : Position) → length (looks R s) ≤ suc R.len - (s.place + R.period)
  unfolding left
  looks_bounded s = length-looks R positive s

  length_items_of : (l : List Position) → length (items_of R l) ≤ length l
  unfolding items_of giving
  length_items_of [] = omega arith
  length_items_of (s ∷ l) = go (look R s).gives (length_items_of l)
    where
      go : (g : Option Item) → length (items_of R l) ≤ length l → length (giving g (items_of R l)) ≤ suc (length l)
      go none h = omega arith
      go (some x) h = omega arith

  pub items_bounded : (s : Position) → length (items R s) ≤ suc R.len - (s.place + R.period)
  unfolding items
  items_bounded s = omega (arith, length_items_of (looks R s), looks_bounded s)

  -- A WALK THAT IS DONE STAYS DONE: where a step hands back done, each later step hands back done at that place, and the same walk
  abbrev Stays : Stepped → Type 0
  Stays r = (p : ℕ) → r.item ≡ Done p → (r.walk.place ≡ p) × (step_of R r.walk ≡ record { item = Done p; walk = r.walk })

  pub done_stays : (s : Position) (p : ℕ) → (step_of R s).item ≡ Done p →
      ((step_of R s).walk.place ≡ p) × (step_of R (step_of R s).walk ≡ record { item = Done p; walk = (step_of R s).walk })
  unfolding step_by
  done_stays = walk_ind R positive (λ s. Stays (step_of R s)) dead alive
    where
      dead : (s : Position) → live R s ≡ false → Stays (step_of R s)
      dead s e = rw (step_dead R positive s e) (λ p q. (cc, step_dead R positive s e ∙ ap (λ (x : Item). record { item = x; walk = s }) q))

      at : (s : Position) (g : Option Item) → (look R s).gives ≡ g → Stays (step_of R (look R s).goes) → Stays (step_by g (look R s).goes (step_of R (look R s).goes))
      at s none w ih = ih
      at s (some x) w ih = λ p q. absurd (never_done R s p (cc))

      alive : (s : Position) → live R s ≡ true → Stays (step_of R (look R s).goes) → Stays (step_of R s)
      alive s e ih = rw (step_live R positive s e) (at s (look R s).gives refl ih)

  -- the state in which the walk ends is such a one
  pub rest_stays : (s : Position) → step_of R (rest R s) ≡ record { item = Done (rest R s).place; walk = rest R s }
  rest_stays = walk_ind R positive (λ s. step_of R (rest R s) ≡ record { item = Done (rest R s).place; walk = rest R s })
      (λ s e. rw (rest_dead R positive s e) (step_dead R positive s e)) (λ s e ih. rw (rest_live R positive s e) ih)

  -- REPEATED STEPS from s on hand back the walk's items, and then done, at the place of its end, as often as they are asked
  calls_dead : (s : Position) (n : ℕ) → live R s ≡ false → calls R n s ≡ replicate n (Done s.place)
  unfolding calls
  calls_dead s zero e = refl
  calls_dead s (suc n) e = rw (step_dead R positive s e) (ap (λ (l : List Item). Done s.place ∷ l) (calls_dead s n e))

  calls_same : (s t : Position) (n : ℕ) → step_of R s ≡ step_of R t → calls R n s ≡ calls R n t
  unfolding calls
  calls_same s t zero e = refl
  calls_same s t (suc n) e = rw e

  abbrev Called : Position → Type 0
  Called s = (n : ℕ) → calls R (length (items R s) + n) s ≡ items R s ++ replicate n (Done (rest R s).place)

  pub calls_items : (s : Position) (n : ℕ) → calls R (length (items R s) + n) s ≡ items R s ++ replicate n (Done (rest R s).place)
  unfolding calls giving step_by
  calls_items = walk_ind R positive Called dead alive
    where
      dead : (s : Position) → live R s ≡ false → Called s
      dead s e n = rw (items_dead R positive s e, rest_dead R positive s e, zero-add) (calls_dead s n e)

      at : (s t : Position) (g : Option Item) → items R s ≡ giving g (items R t) → step_of R s ≡ step_by g t (step_of R t) → rest R s ≡ rest R t → Called t → Called s
      at s t none i e r ih n = rw (i, r) (calls_same s t (length (items R t) + n) e ∙ ih n)
      at s t (some x) i e r ih n = rw (i, r, suc-add, e) (ap (λ (l : List Item). x ∷ l) (ih n))

      alive : (s : Position) → live R s ≡ true → Called (look R s).goes → Called s
      alive s e ih = at s (look R s).goes (look R s).gives (items_live R positive s e) (step_live R positive s e) (rest_live R positive s e) ih

  -- so it is done after as many steps as there are places, at the latest
  pub calls_end : (s : Position) (m : ℕ) → suc R.len - (s.place + R.period) ≤ m → calls R m s ≡ items R s ++ replicate (m - length (items R s)) (Done (rest R s).place)
  calls_end s m h =
      let q : m ≡ length (items R s) + (m - length (items R s)) = omega (arith, items_bounded s) in
      ap (λ (n : ℕ). calls R n s) q ∙ calls_items s (m - length (items R s))

  -- fewer steps hand back fewer of them
  calls_take : (n m : ℕ) (s : Position) → calls R n s ≡ take n (calls R (n + m) s)
  unfolding calls
  calls_take zero m s = refl
  calls_take (suc n) m s = rw suc-add (ap (λ (l : List Item). (step_of R s).item ∷ l) (calls_take n m (step_of R s).walk))

  pub calls_first : (s : Position) (xs ys : List Item) → items R s ≡ xs ++ ys → calls R (length xs) s ≡ xs
  calls_first s xs ys e =
      let q : length xs + (length ys + 0) ≡ length (items R s) + 0 = omega (arith, ap length e, length-append xs ys) in
      calls_take (length xs) (length ys + 0) s
      ∙ ap (take (length xs)) (ap (λ (n : ℕ). calls R n s) q ∙ calls_items s 0 ∙ ap (λ (l : List Item). l ++ []) e ∙ append_assoc xs ys [])
      ∙ take-append_seam xs (ys ++ [])

  -- A FRAME IS FOLLOWED, wherever in the walk it is, by what the walk in lock a period later hands out, and the walk ends as that does
  abbrev Then : Position → Type 0
  Then s = (earlier later : List Item) (q : ℕ) (h : Header) → items R s ≡ earlier ++ (Frame q h ∷ later) → (later ≡ items R (locked (q + R.period) 0)) × (rest R s ≡ rest R (locked (q + R.period) 0))

  pub frame_followed : (s : Position) → Then s
  unfolding giving
  frame_followed = walk_ind R positive Then dead alive
    where
      dead : (s : Position) → live R s ≡ false → Then s
      dead s e [] later q h i = absurd (let z : ◌≡◌ {A = ℕ} 0 1 = cc (items_dead R positive s e) in omega arith)
      dead s e (x ∷ earlier) later q h i = absurd (let z : ◌≡◌ {A = ℕ} 0 1 = cc (items_dead R positive s e) in omega arith)

      at : (s : Position) (g : Option Item) → (look R s).gives ≡ g → items R s ≡ giving g (items R (look R s).goes) → rest R s ≡ rest R (look R s).goes → Then (look R s).goes → Then s
      at s none w e r ih earlier later q h i = let (a, b) = ih earlier later q h (sym e ∙ i) in (a, r ∙ b)
      at s (some x) w e r ih [] later q h i =
          let f : (look R s).gives ≡ some (Frame q h) = cc in
          let g : (look R s).goes ≡ locked (q + R.period) 0 = frame_locks R s q h f in
          (cc, r ∙ ap (rest R) g)
      at s (some x) w e r ih (y ∷ earlier) later q h i = let (a, b) = ih earlier later q h (cc) in (a, r ∙ b)

      alive : (s : Position) → live R s ≡ true → Then (look R s).goes → Then s
      alive s e ih = at s (look R s).gives refl (items_live R positive s e) (rest_live R positive s e) ih
