-- The first number of which a test holds, looked for one after another.
-- Assumes nothing.
use mathlib.Core.Bool.{Bool, true, false}
use mathlib.Core.List.{List}
use mathlib.Core.Path.{◌≡◌, refl, sym, ap, ◌∙◌}
use Prim.Native.Nat.{ℕ, suc, ◌+◌, ◌-◌, ◌≤◌, ◌<◌}
use native.Mathlib.Nat.{le_antisymm}
use native.Mathlib.Omega.{arith}
use borrow.Author.Tests.{lt-ltb, le-ltb}
use lib.Dec.{ltb}
use Rattle.places.specs.declared.Place.{Place}
use Rattle.collision.specs.Collisions.{seek, seek_to, later_to, earlier_to, pair_to, place_at}

-- ---- a turn: it holds here, it does not, nothing is left
module _ (t : ℕ → Bool) (a n : ℕ) where
  pub here : a < n → t a ≡ true → seek_to t a n ≡ a
  unfolding seek
  here h e = let k : n - a ≡ suc (n - (a + 1)) = omega arith in rw (k, e)

  pub onward : a < n → t a ≡ false → seek_to t a n ≡ seek_to t (a + 1) n
  unfolding seek
  onward h e = let k : n - a ≡ suc (n - (a + 1)) = omega arith in rw (k, e)

  pub ended : a ≡ n → seek_to t a n ≡ n
  unfolding seek
  ended e = let k : n - a ≡ 0 = omega arith in rw k e

-- ---- the same for a loop that looks for v
abbrev pub Sought : (ℕ → Bool) → ℕ → ℕ → ℕ → Type 0
Sought t i n v = (i ≤ n) × (seek_to t i n ≡ v)

module _ (t : ℕ → Bool) (i n v : ℕ) (s : Sought t i n v) where
  pub found : i < n → t i ≡ true → i ≡ v
  found h e = sym (here t i n h e) ∙ s.1

  pub not_yet : i < n → t i ≡ false → Sought t (i + 1) n v
  not_yet h e = (omega arith, sym (onward t i n h e) ∙ s.1)

  pub none_left : n ≤ i → n ≡ v
  none_left h = sym (ended t i n (le_antisymm s.0 h)) ∙ s.1

-- one stream, and one behind stream m
abbrev pub of_one : (Place → Bool) → List ℕ → ℕ → Bool
of_one t f i = t (place_at f i)

abbrev pub of_two : (Place → Place → Bool) → List ℕ → ℕ → ℕ → Bool
of_two t f m j = t (place_at f m) (place_at f j)

abbrev pub has_later : (Place → Place → Bool) → List ℕ → ℕ → ℕ → Bool
has_later t f n i = ltb (later_to t f n i) n

pub one_told : (t : Place → Bool) (f : List ℕ) (i k : ℕ) (p : Place) (r b : Bool) → p ≡ place_at f k → k ≡ i → r ≡ t p → r ≡ b → of_one t f i ≡ b
one_told t f i k p r b e z q d = sym (ap t (e ∙ ap (place_at f) z)) ∙ sym q ∙ d

pub later_begins : (t : Place → Place → Bool) (f : List ℕ) (n i : ℕ) → i < n → Sought (of_two t f i) (i + 1) n (later_to t f n i)
unfolding later_to
later_begins t f n i h = (omega arith, refl)

-- what stands behind stream i, looked for with its place at hand
pub later_told : (t : Place → Place → Bool) (f : List ℕ) (n i j k : ℕ) (m : Place) → m ≡ place_at f k → k ≡ i → j ≡ seek_to (λ (a : ℕ). t m (place_at f a)) (i + 1) n → j ≡ later_to t f n i
unfolding later_to
later_told t f n i j k m e q d = d ∙ ap (λ (p : Place). seek_to (λ (a : ℕ). t p (place_at f a)) (i + 1) n) (e ∙ ap (place_at f) q)

pub pair_begins : (t : Place → Place → Bool) (f : List ℕ) (n : ℕ) → Sought (has_later t f n) 0 n (earlier_to t f n)
unfolding earlier_to
pair_begins t f n = (omega arith, refl)

module _ (t : Place → Place → Bool) (f : List ℕ) (n i : ℕ) (s : Sought (has_later t f n) i n (earlier_to t f n)) where
  pub pair_found : (j : ℕ) → i < n → j ≡ later_to t f n i → j < n → record { first = i; second = j } ≡ pair_to t f n
  unfolding pair_to
  pair_found j h e l =
      let k : later_to t f n i < n = omega arith in
      let v : i ≡ earlier_to t f n = found (has_later t f n) i n (earlier_to t f n) s h (lt-ltb (later_to t f n i) n k) in
      rw (← v, lt-ltb i n h, e)

  pub pair_not_yet : (j : ℕ) → i < n → j ≡ later_to t f n i → n ≤ j → Sought (has_later t f n) (i + 1) n (earlier_to t f n)
  pair_not_yet j h e l =
      let k : n ≤ later_to t f n i = omega arith in
      not_yet (has_later t f n) i n (earlier_to t f n) s h (le-ltb (later_to t f n i) n k)

  pub no_pair : n ≤ i → record { first = n; second = n } ≡ pair_to t f n
  unfolding pair_to
  no_pair h =
      let v : n ≡ earlier_to t f n = none_left (has_later t f n) i n (earlier_to t f n) s h in
      rw (← v, le-ltb n n (omega arith))
