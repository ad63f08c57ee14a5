-- What each look keeps a step keeps: the misses stay within the limit, and the place within the record. What the misses mean.
-- Assumes nothing.
use Prim.Native.Nat.{ℕ, zero, suc, ◌+◌, ◌*◌, ◌≤◌, ◌<◌}
use mathlib.Core.Path.{◌≡◌, refl, sym, ap, subst, ◌∙◌}
use mathlib.Core.List.{List}
use mathlib.Core.Bool.{true, false}
use mathlib.Core.Option.{Option, none, some}
use native.Mathlib.Omega.{arith}
use native.Mathlib.Decide.{dec_le}
use lib.Dec.{lit<}
use Rattle.walk.specs.Walk.{Judged, Position, Item, Stepped, locked, hunting, begin, item_at, keeps, live, look, step_by, step_of}
use Rattle.walk.specs.declared.State.{State}
use Rattle.walk.specs.declared.Step.{Step}
use Rattle.walk.specs.Records.{judged, Allowed, within, start, step_with, step_at, calls_at, state_after}
use Rattle.walk.specs.Truth.{MissesRow, misses_after, misses_in}
use Rattle.walk.proofs.ByRules.{live_fits, live_few, by_rules, by_item, stands_keeps, confirmed_stands}
use Rattle.walk.proofs.Looks.{step_dead, step_live, walk_ind}
use Rattle.walk.proofs.Keeping.{keeping, kept}
use Rattle.walk.proofs.Limits.{is_allowed, by_limit, step_is, step_outside}

-- in lock the misses are the places in a row that did not keep it
abbrev Row : Judged → Position → Type 0
Row R s = (last : ℕ) × (s.misses < R.limit) × (keeps R last ≡ true) × ((i : ℕ) → i < s.misses → keeps R (last + suc i * R.period) ≡ false) × (s.place ≡ last + suc s.misses * R.period)

module _ (R : Judged) (positive : 0 < R.period) where
  module _ (P : Position → Type 0) (kept : (s : Position) → live R s ≡ true → P s → P (look R s).goes) where
    pub step_keeps : (s : Position) → P s → P (step_of R s).walk
    unfolding step_by
    step_keeps = walk_ind R positive (λ s. P s → P (step_of R s).walk) dead alive
      where
        dead : (s : Position) → live R s ≡ false → P s → P (step_of R s).walk
        dead s e h = subst (λ (r : Stepped). P r.walk) (sym (step_dead R positive s e)) h

        at : (s : Position) (g : Option Item) → P (look R s).goes → P (step_of R (look R s).goes).walk → P (step_by g (look R s).goes (step_of R (look R s).goes)).walk
        at s none a b = b
        at s (some x) a b = a

        alive : (s : Position) → live R s ≡ true → (P (look R s).goes → P (step_of R (look R s).goes).walk) → P s → P (step_of R s).walk
        alive s e ih h =
            let w = kept s e h in
            subst (λ (r : Stepped). P r.walk) (sym (step_live R positive s e)) (at s (look R s).gives w (ih w))

  module _ (m : ℕ) where
    pub misses_within : R.limit ≤ m → (s : Position) → s.misses ≤ m → (step_of R s).walk.misses ≤ m
    misses_within most =
        step_keeps (λ s. s.misses ≤ m)
        (by_rules R (λ s l. live R s ≡ true → s.misses ≤ m → l.goes.misses ≤ m)
        (λ p k e v h. omega arith) (λ p k e b v h. omega arith) (λ p k e v h. omega (arith, live_few R p k v)) (λ p k e v h. omega arith) (λ p k v h. h))

    pub place_within : R.len ≤ m → (s : Position) → s.place ≤ m → (step_of R s).walk.place ≤ m
    place_within most =
        step_keeps (λ s. s.place ≤ m)
        (by_rules R (λ s l. live R s ≡ true → s.place ≤ m → l.goes.place ≤ m)
        (λ p k e v h. omega (arith, live_fits R (locked p k) v))
        (λ p k e b v h. omega (arith, live_fits R (locked p k) v))
        (λ p k e v h. omega (arith, live_fits R (locked p k) v))
        (λ p k e v h. omega (arith, live_fits R (hunting p k) v))
        (λ p k v h. omega (arith, live_fits R (hunting p k) v)))

  at_once : (p : ℕ) → 0 < R.limit → keeps R p ≡ true → Row R (locked (p + R.period) 0)
  at_once p patient e = (p, patient, e, λ i h. absurd (omega arith), omega arith)

  once_more : (p k : ℕ) → keeps R p ≡ false → k + 1 < R.limit → Row R (locked p k) → Row R (locked (p + R.period) (k + 1))
  once_more p k e few (last, f, kept, missed, place) = (last, few, kept, λ i h. go i (dec_le (suc i) k) h, omega arith)
    where
      go : (i : ℕ) → Dec (suc i ≤ k) → i < k + 1 → keeps R (last + suc i * R.period) ≡ false
      go i (yes l) h = missed i l
      go i (no l) h = let w : i ≡ k = omega arith in rw (w, ← place) e

  pub row_kept : 0 < R.limit → (s : Position) → (s.lock ≡ true → Row R s) → (step_of R s).walk.lock ≡ true → Row R (step_of R s).walk
  row_kept patient =
      step_keeps (λ s. s.lock ≡ true → Row R s)
      (by_rules R (λ s l. live R s ≡ true → (s.lock ≡ true → Row R s) → l.goes.lock ≡ true → Row R l.goes)
      (λ p k e v h l. at_once p patient e)
      (λ p k e b v h l. once_more p k e b (h refl))
      (λ p k e v h l. absurd (let z : ◌≡◌ {A = ℕ} 0 1 = cc in omega arith))
      (λ p k e v h l. at_once p patient (stands_keeps R p (confirmed_stands R p e)))
      (λ p k v h l. absurd (let z : ◌≡◌ {A = ℕ} 0 1 = cc in omega arith)))

  -- a step's item tells what it does to the misses
  abbrev Tells : ℕ → Stepped → Type 0
  Tells k r = r.walk.misses ≡ misses_after k r.item

  pub misses_after_lem : (s : Position) → (step_of R s).walk.misses ≡ misses_after s.misses (step_of R s).item
  unfolding step_by
  misses_after_lem = walk_ind R positive (λ s. Tells s.misses (step_of R s)) (λ s e. rw (step_dead R positive s e)) alive
    where
      in_lock_lem : (p k : ℕ) (t : Position) → (keeps R p ≡ true → t.misses ≡ 0) → (keeps R p ≡ false → t.misses ≡ k + 1) → t.misses ≡ misses_after k (item_at R p)
      in_lock_lem p k t = by_item R p (λ x b. (b ≡ true → t.misses ≡ 0) → (b ≡ false → t.misses ≡ k + 1) → t.misses ≡ misses_after k x) (λ e f g. f refl) (λ e f g. f refl) (λ e d f g. omega (arith, g refl))

      told : (s : Position) → (r : Stepped) → Tells (look R s).goes.misses r → Tells s.misses (step_by (look R s).gives (look R s).goes r)
      told = by_rules R (λ s l. (r : Stepped) → Tells l.goes.misses r → Tells s.misses (step_by l.gives l.goes r))
          (λ p k e r h. in_lock_lem p k (locked (p + R.period) 0) (λ w. refl) (λ w. cc))
          (λ p k e b r h. in_lock_lem p k (locked (p + R.period) (k + 1)) (λ w. cc) (λ w. refl))
          (λ p k e r h. in_lock_lem p k (hunting (p + 1) (k + 1)) (λ w. cc) (λ w. refl))
          (λ p k e r h. refl)
          (λ p k r h. h)

      alive : (s : Position) → live R s ≡ true → Tells (look R s).goes.misses (step_of R (look R s).goes) → Tells s.misses (step_of R s)
      alive s e ih = rw (step_live R positive s e) (told s (step_of R (look R s).goes) ih)

-- WHAT THE MISSES MEAN, of the state that any number of calls leave
module _ (bytes : List ℕ) where
  step_misses : (s : State) → (step_at bytes s).walk.position.misses ≡ misses_after s.position.misses (step_at bytes s).item
  unfolding step_with judged
  step_misses s = by_limit s.limit _ (λ e. rw (step_is bytes s.limit e s.position) (misses_after_lem (judged s.limit bytes) (lit< tt) s.position)) (λ e. rw (step_outside bytes s e))

  pub misses_from : (n : ℕ) (s : State) → (state_after bytes n s).position.misses ≡ misses_in s.position.misses (calls_at bytes n s)
  unfolding state_after calls_at misses_in
  misses_from zero s = refl
  misses_from (suc n) s = misses_from n (step_at bytes s).walk ∙ ap (λ (k : ℕ). misses_in k (calls_at bytes n (step_at bytes s).walk)) (step_misses s)

  -- from the walk's beginning on
  pub misses_items : (m n : ℕ) → (state_after bytes n (start m)).position.misses ≡ misses_in 0 (calls_at bytes n (start m))
  misses_items m n = misses_from n (start m)

  module _ (m : ℕ) (ok : Allowed m) where
    abbrev Rows : State → Type 0
    Rows s = (s.limit ≡ m) × (s.position.lock ≡ true → Row (judged m bytes) s.position)

    rows_from : (n : ℕ) (p : Position) → (p.lock ≡ true → Row (judged m bytes) p) → Rows (state_after bytes n (within m p))
    unfolding state_after step_with judged
    rows_from zero p h = (refl, h)
    rows_from (suc n) p h =
        subst (λ (r : Step). Rows (state_after bytes n r.walk)) (sym (step_is bytes m (is_allowed m ok) p))
        (rows_from n (step_of (judged m bytes) p).walk (row_kept (judged m bytes) (lit< tt) ok.0 p h))

    pub misses_row : (n : ℕ) → (state_after bytes n (start m)).position.lock ≡ true → MissesRow bytes (state_after bytes n (start m))
    unfolding judged
    misses_row n l = go (rows_from n begin (λ e. absurd (let z : ◌≡◌ {A = ℕ} 0 1 = cc in omega arith)))
      where
        go : Rows (state_after bytes n (start m)) → MissesRow bytes (state_after bytes n (start m))
        go (same, row) =
            let (last, few, e, missed, place) = row l in
            record {
              few = rw same few;
              last = last;
              kept = keeping m bytes last e;
              missed = λ i h ok. let y = kept m bytes (last + suc i * 6144) ok in let x = missed i h in let z : ◌≡◌ {A = ℕ} 0 1 = cc in omega arith;
              place = place;
            }
