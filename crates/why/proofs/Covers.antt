-- The looks of a walk, as a list: each place from the walk's own on is covered by one look, which is at it or goes past it.
-- Assumes nothing.
use Prim.Native.Nat.{ℕ, suc, ◌+◌, ◌≤◌, ◌<◌}
use mathlib.Core.Path.{◌≡◌, refl, sym, ap, ◌∙◌}
use mathlib.Core.Bool.{Bool, true, false, not, ◌&&◌}
use mathlib.Core.List.Memᴰ
use mathlib.Core.List.{List, [], ◌∷◌, Memᴰ}
use mathlib.Core.Logic.{◌⊎◌, inl, inr}
use mathlib.Core.Option.{Option, none, some}
use native.Mathlib.Omega.{arith}
use native.Mathlib.Decide.{dec_le}
use lib.Dec.{leb}
use borrow.Author.Tests.{le-leb, lt-leb}
use Rattle.octets.proofs.Deciding.{clash}
use Rattle.walk.specs.declared.Item.{Item}
use Rattle.walk.specs.declared.Position.{Position}
use Rattle.walk.specs.Walk.{Judged, frame_at, live, item_at, look, looks, giving, items_of}
use Rattle.walk.specs.ItemValues.{place_of}
use Rattle.walk.proofs.ByRules.{by_rules, further, place_item}
use Rattle.walk.proofs.Looks.{looks_dead, looks_live, walk_ind}

-- the look in the state s is at p, or goes past it
pub record Covers (R : Judged) (p : ℕ) (s : Position) : Type 0 where
  pub from : s.place ≤ p
  pub to : p < (look R s).goes.place

-- a state in lock has misses to spare
abbrev pub Fresh : Judged → Position → Type 0
Fresh R s = s.lock ≡ true → s.misses < R.limit

module _ (R : Judged) (positive : 0 < R.period) where
  -- ---- the looks
  pub first_look : (u : Position) → live R u ≡ true → Memᴰ u (looks R u)
  first_look u e = rw (looks_live R positive u e) (Memᴰ.head refl)

  pub later_look : (u s : Position) → live R u ≡ true → Memᴰ s (looks R (look R u).goes) → Memᴰ s (looks R u)
  later_look u s e m = rw (looks_live R positive u e) (Memᴰ.tail m)

  pub looked : (u s : Position) → live R u ≡ true → Memᴰ s (looks R u) → (s ≡ u) ⊎ Memᴰ s (looks R (look R u).goes)
  looked u s e m = Memᴰ.cases_cons (rw (looks_live R positive u e) at m)

  pub none_looked : {A : Type 0} (u s : Position) → live R u ≡ false → Memᴰ s (looks R u) → A
  none_looked u s e m = absurd (Memᴰ.not-nil (rw (looks_dead R positive u e) at m))

  -- the places grow
  pub no_sooner : (u s : Position) → Memᴰ s (looks R u) → u.place ≤ s.place
  no_sooner u s = walk_ind R positive (λ u. Memᴰ s (looks R u) → u.place ≤ s.place) (λ u e m. none_looked u s e m) alive u
    where
      by : (u : Position) → (s ≡ u) ⊎ Memᴰ s (looks R (look R u).goes) → (Memᴰ s (looks R (look R u).goes) → (look R u).goes.place ≤ s.place) → u.place ≤ s.place
      by u (inl q) ih = rw q (omega arith)
      by u (inr m) ih = omega (arith, further R positive u, ih m)

      alive : (u : Position) → live R u ≡ true → (Memᴰ s (looks R (look R u).goes) → (look R u).goes.place ≤ s.place) → Memᴰ s (looks R u) → u.place ≤ s.place
      alive u e ih m = by u (looked u s e m) ih

  -- so no place is covered twice
  abbrev Once : ℕ → Position → Position → Position → Type 0
  Once p s t u = Memᴰ s (looks R u) → Memᴰ t (looks R u) → Covers R p s → Covers R p t → s ≡ t

  pub one_cover : (p : ℕ) (u s t : Position) → Memᴰ s (looks R u) → Memᴰ t (looks R u) → Covers R p s → Covers R p t → s ≡ t
  one_cover p u s t = walk_ind R positive (Once p s t) (λ u e m n. none_looked u s e m) alive u
    where
      by : (u : Position) → (s ≡ u) ⊎ Memᴰ s (looks R (look R u).goes) → (t ≡ u) ⊎ Memᴰ t (looks R (look R u).goes) → Once p s t (look R u).goes → Covers R p s → Covers R p t → s ≡ t
      by u (inl q) (inl r) ih c d = q ∙ sym r
      by u (inl q) (inr n) ih c d = absurd (omega (arith, no_sooner _ t n, d.from, c.to, ap (λ (x : Position). (look R x).goes.place) q))
      by u (inr m) (inl r) ih c d = absurd (omega (arith, no_sooner _ s m, c.from, d.to, ap (λ (x : Position). (look R x).goes.place) r))
      by u (inr m) (inr n) ih c d = ih m n c d

      alive : (u : Position) → live R u ≡ true → Once p s t (look R u).goes → Once p s t u
      alive u e ih m n c d = by u (looked u s e m) (looked u t e n) ih c d

  -- and each place is covered
  pub still_live : (p : ℕ) → p + R.period ≤ R.len → (s : Position) → Fresh R s → s.place ≤ p → live R s ≡ true
  unfolding live
  still_live p room s o h = rw (le-leb (s.place + R.period) R.len (omega arith)) (go s.lock refl)
    where
      go : (b : Bool) → s.lock ≡ b → not (b && leb R.limit s.misses) ≡ true
      go true e = rw (lt-leb R.limit s.misses (o e))
      go false e = refl

  pub stays_fresh : 0 < R.limit → (s : Position) → Fresh R (look R s).goes
  stays_fresh h = by_rules R (λ s l. Fresh R l.goes) (λ p k e z. h) (λ p k e b z. b) (λ p k e z. clash (sym z)) (λ p k e z. h) (λ p k z. clash (sym z))

  abbrev Covered : ℕ → Position → Type 0
  Covered p u = (s : Position) × Memᴰ s (looks R u) × Covers R p s

  pub some_cover : (p : ℕ) → 0 < R.limit → p + R.period ≤ R.len → (u : Position) → Fresh R u → u.place ≤ p → Covered p u
  some_cover p patient room = walk_ind R positive (λ u. Fresh R u → u.place ≤ p → Covered p u) dead alive
    where
      dead : (u : Position) → live R u ≡ false → Fresh R u → u.place ≤ p → Covered p u
      dead u e o h = clash (sym (still_live p room u o h) ∙ e)

      by : (u : Position) → live R u ≡ true → u.place ≤ p → Dec ((look R u).goes.place ≤ p) → ((look R u).goes.place ≤ p → Covered p (look R u).goes) → Covered p u
      by u e h (yes l) ih = let (s, m, c) = ih l in (s, later_look u s e m, c)
      by u e h (no l) ih = (u, first_look u e, record { from = h; to = omega arith })

      alive : (u : Position) → live R u ≡ true → (Fresh R (look R u).goes → (look R u).goes.place ≤ p → Covered p (look R u).goes) → Fresh R u → u.place ≤ p → Covered p u
      alive u e ih o h = by u e h (dec_le (look R u).goes.place p) (ih (stays_fresh patient u))

  -- ---- what a look gives stands at its place
  pub gives_place : (s : Position) (x : Item) → (look R s).gives ≡ some x → place_of x ≡ s.place
  gives_place s x = by_rules R (λ s l. l.gives ≡ some x → place_of x ≡ s.place)
      (λ p k e q. rw (← same (item_at R p) x q) (place_item R p)) (λ p k e b q. rw (← same (item_at R p) x q) (place_item R p)) (λ p k e q. rw (← same (item_at R p) x q) (place_item R p))
      (λ p k e q. rw (← same (frame_at R p) x q)) (λ p k q. let z : ◌≡◌ {A = ℕ} 0 1 = cc in absurd (omega arith)) s
    where
      same : (x y : Item) → some x ≡ some y → x ≡ y
      same x y e = cc

  -- a look that goes further than to the next place hands out an item, and the walk goes on in lock
  pub leaps : (s : Position) → suc s.place < (look R s).goes.place → ((look R s).goes.lock ≡ true) × (x : Item) × ((look R s).gives ≡ some x)
  leaps = by_rules R (λ s l. suc s.place < l.goes.place → (l.goes.lock ≡ true) × (x : Item) × (l.gives ≡ some x))
      (λ p k e h. (refl, _, refl)) (λ p k e b h. (refl, _, refl)) (λ p k e h. absurd (omega arith)) (λ p k e h. (refl, _, refl)) (λ p k h. absurd (omega arith))

-- ---- the items of looks: each is given by one of them
abbrev Given : Judged → Item → List Position → Type 0
Given R x l = (t : Position) × Memᴰ t l × ((look R t).gives ≡ some x)

pub given : (R : Judged) (l : List Position) (x : Item) → Memᴰ x (items_of R l) → (s : Position) × Memᴰ s l × ((look R s).gives ≡ some x)
unfolding items_of giving
given R [] x m = absurd (Memᴰ.not-nil m)
given R (s ∷ l) x m = go (look R s).gives refl m (given R l x)
  where
    on : Given R x l → Given R x (s ∷ l)
    on (t, n, e) = (t, Memᴰ.tail n, e)

    go : (g : Option Item) → (look R s).gives ≡ g → Memᴰ x (giving g (items_of R l)) → (Memᴰ x (items_of R l) → Given R x l) → Given R x (s ∷ l)
    go none e m ih = on (ih m)
    go (some y) e m ih = by (Memᴰ.cases_cons m)
      where
        by : (x ≡ y) ⊎ Memᴰ x (items_of R l) → Given R x (s ∷ l)
        by (inl q) = (s, Memᴰ.head refl, e ∙ ap some (sym q))
        by (inr n) = on (ih n)

pub gives : (R : Judged) (l : List Position) (x : Item) (s : Position) → Memᴰ s l → (look R s).gives ≡ some x → Memᴰ x (items_of R l)
unfolding items_of giving
gives R [] x s m e = absurd (Memᴰ.not-nil m)
gives R (t ∷ l) x s m e = by (Memᴰ.cases_cons m) (λ n. gives R l x s n e)
  where
    more : (g : Option Item) → Memᴰ x (items_of R l) → Memᴰ x (giving g (items_of R l))
    more none n = n
    more (some y) n = Memᴰ.tail n

    by : (s ≡ t) ⊎ Memᴰ s l → (Memᴰ s l → Memᴰ x (items_of R l)) → Memᴰ x (giving (look R t).gives (items_of R l))
    by (inl q) ih = let w : (look R t).gives ≡ some x = ap (λ (u : Position). (look R u).gives) (sym q) ∙ e in rw w (Memᴰ.head refl)
    by (inr n) ih = more (look R t).gives (ih n)
