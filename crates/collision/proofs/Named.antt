-- The streams named are the first of which the number's condition holds, in table order.
-- Assumes nothing.
use mathlib.Core.Bool.{Bool, true, false}
use mathlib.Core.List.{List, [], ◌∷◌, ◌++◌}
use mathlib.Core.Logic.{◌⊎◌, inl, inr, ⊎_elim}
use mathlib.Core.Path.{◌≡◌, refl, sym, ap, ◌∙◌}
use Prim.Native.Nat.{ℕ, zero, suc, ◌+◌, ◌-◌, ◌≤◌, ◌<◌}
use native.Mathlib.Nat.{eq-or-lt_of_le}
use native.Mathlib.Omega.{arith}
use borrow.Author.Tests.{ltb-true, ltb-false, lt-ltb}
use lib.Dec.{T, ltb, ltb→lt, lit<}
use lib.ListN.{drop}
use Rattle.octets.specs.Choice.{pick}
use Rattle.octets.proofs.Deciding.{clash}
use Rattle.frame.specs.Frame.{nst_of}
use Rattle.frame.specs.Rules.{Rule, ◌when◌, first, rules_of}
use Rattle.frame.proofs.FirstRule.{holds_there}
use Rattle.places.specs.declared.Place.{Place}
use Rattle.places.specs.Places.{places_of, place_rules, profile_of, some, some_pair, same_scid, unsized, beyond, meets}
use Rattle.places.proofs.Meaning.{some_found, pair_found}
use Rattle.places.proofs.PlaceList.{places_length, places_at}
use Rattle.collision.specs.Collisions.{seek, seek_to, one_to, later_to, earlier_to, pair_to, two_by, two_of, place_at, FirstOne, FirstTwo}
use Rattle.collision.proofs.FirstFound.{of_one, of_two, has_later}

-- ---- rules whose numbers are all below m are passed over
abbrev Below : ℕ → List Rule → Type 0
Below m [] = Unit {0}
Below m ((n when b) ∷ rs) = T (ltb n m) × Below m rs

skips : (m : ℕ) (rs ts : List Rule) → Below m rs → first (rs ++ ts) ≡ m → first ts ≡ m
skips m [] ts k e = e
skips m ((n when true) ∷ rs) ts k e = let p = ltb→lt n m k.0 in absurd (omega arith)
skips m ((n when false) ∷ rs) ts k e = skips m rs ts k.1 e

places_first : (f : List ℕ) (m : ℕ) → Below m (rules_of f) → profile_of f ≡ m → first (place_rules (places_of f)) ≡ m
unfolding profile_of
places_first f m k e = skips m (rules_of f) (place_rules (places_of f)) k e

module _ (f : List ℕ) where
  same_holds : profile_of f ≡ 30 → some_pair same_scid (places_of f) ≡ true
  same_holds e =
      holds_there 30 _ (drop 1 (place_rules (places_of f))) (lit< tt) (tt, (tt, (tt, tt))) (places_first f 30 (tt, (tt, (tt, (tt, (tt, (tt, (tt, (tt, (tt, (tt, tt)))))))))) e)

  unsized_holds : profile_of f ≡ 31 → some unsized (places_of f) ≡ true
  unsized_holds e =
      let p = places_first f 31 (tt, (tt, (tt, (tt, (tt, (tt, (tt, (tt, (tt, (tt, tt)))))))))) e in
      holds_there 31 _ (drop 2 (place_rules (places_of f))) (lit< tt) (tt, (tt, tt)) (skips 31 ((30 when some_pair same_scid (places_of f)) ∷ []) (drop 1 (place_rules (places_of f))) (tt, tt) p)

  beyond_holds : profile_of f ≡ 32 → some beyond (places_of f) ≡ true
  beyond_holds e =
      let p = places_first f 32 (tt, (tt, (tt, (tt, (tt, (tt, (tt, (tt, (tt, (tt, tt)))))))))) e in
      holds_there 32 _ (drop 3 (place_rules (places_of f))) (lit< tt) (tt, tt) (skips 32 ((30 when some_pair same_scid (places_of f)) ∷ (31 when some unsized (places_of f)) ∷ []) (drop 2 (place_rules (places_of f))) (tt, (tt, tt)) p)

  meets_holds : profile_of f ≡ 33 → some_pair meets (places_of f) ≡ true
  meets_holds e =
      let p = places_first f 33 (tt, (tt, (tt, (tt, (tt, (tt, (tt, (tt, (tt, (tt, tt)))))))))) e in
      holds_there 33 _ (drop 4 (place_rules (places_of f))) (lit< tt) tt (skips 33 ((30 when some_pair same_scid (places_of f)) ∷ (31 when some unsized (places_of f)) ∷ (32 when some beyond (places_of f)) ∷ []) (drop 3 (place_rules (places_of f))) (tt, (tt, (tt, tt))) p)

-- ---- what is sought is found where there is one, and it is the first
record Found (t : ℕ → Bool) (a n v : ℕ) : Type 0 where
  from : a ≤ v
  within : v < n
  holds : t v ≡ true
  none_before : (k : ℕ) → a ≤ k → k < v → t k ≡ false

-- or it holds of none, and the end is told
abbrev Sought_out : (ℕ → Bool) → ℕ → ℕ → ℕ → Type 0
Sought_out t a n v = Found t a n v ⊎ (((k : ℕ) → a ≤ k → k < n → t k ≡ false) × (v ≡ n))

module _ (t : ℕ → Bool) where
  seeks : (k a : ℕ) → Sought_out t a (a + k) (seek t k a)
  unfolding seek
  seeks zero a = inr (λ (j : ℕ) (x : a ≤ j) (y : j < a + 0). absurd (omega arith), omega arith)
  seeks (suc k) a = go (t a) refl (seeks k (a + 1))
    where
      go : (b : Bool) → t a ≡ b → Sought_out t (a + 1) (a + 1 + k) (seek t k (a + 1)) → Sought_out t a (a + suc k) (pick b a (seek t k (a + 1)))
      go true d w =
          inl (record { from = omega arith; within = omega arith; holds = d; none_before = λ (j : ℕ) (x : a ≤ j) (y : j < a). absurd (omega arith) })
      go false d (inl w) =
          inl
          (record {
            from = omega (arith, w.from);
            within = omega (arith, w.within);
            holds = w.holds;
            none_before = λ (j : ℕ) (x : a ≤ j) (y : j < seek t k (a + 1)). ⊎_elim (λ (q : a ≡ j). ap t (sym q) ∙ d) (λ (q : a < j). w.none_before j (omega arith) y) (eq-or-lt_of_le x);
          })
      go false d (inr w) =
          inr (λ (j : ℕ) (x : a ≤ j) (y : j < a + suc k). ⊎_elim (λ (q : a ≡ j). ap t (sym q) ∙ d) (λ (q : a < j). w.0 j (omega arith) (omega arith)) (eq-or-lt_of_le x), omega (arith, w.1))

  seeks_to : (a n : ℕ) → a ≤ n → Sought_out t a n (seek_to t a n)
  seeks_to a n h = let q : a + (n - a) ≡ n = omega arith in rw q at (seeks (n - a) a)

  -- where it holds of one, and where the end is not told
  sought : (a n m : ℕ) → a ≤ m → m < n → t m ≡ true → Found t a n (seek_to t a n)
  sought a n m l h e = ⊎_elim (λ w. w) (λ w. clash (sym e ∙ w.0 m l h)) (seeks_to a n (omega arith))

  told : (a n : ℕ) → a ≤ n → seek_to t a n < n → Found t a n (seek_to t a n)
  told a n h l = ⊎_elim (λ w. w) (λ w. absurd (omega (arith, w.1))) (seeks_to a n h)

module _ (f : List ℕ) where
  one_first : (t : Place → Bool) → some t (places_of f) ≡ true → FirstOne t f (one_to t f (nst_of f))
  unfolding one_to
  one_first t h =
      let o = some_found t (places_of f) h in
      let w : o.at < nst_of f = omega (arith, o.within, places_length f (nst_of f)) in
      let e : of_one t f o.at ≡ true = ap t (sym (places_at f o.at (nst_of f) w)) ∙ o.holds in
      let r = sought (of_one t f) 0 (nst_of f) o.at (omega arith) w e in
      record { within = r.within; holds = r.holds; none_before = λ (k : ℕ) (l : k < seek_to (of_one t f) 0 (nst_of f)). r.none_before k (omega arith) l }

  -- the two named, from a stream m with one behind it
  behind : (t : Place → Place → Bool) (a b : ℕ) → a < b → b < nst_of f → of_two t f a b ≡ true → later_to t f (nst_of f) a < nst_of f
  unfolding later_to
  behind t a b l k e = (sought (of_two t f a) (a + 1) (nst_of f) b (omega arith) k e).within

  later_found : (t : Place → Place → Bool) (a : ℕ) → a < nst_of f → later_to t f (nst_of f) a < nst_of f → Found (of_two t f a) (a + 1) (nst_of f) (later_to t f (nst_of f) a)
  unfolding later_to
  later_found t a h l = told (of_two t f a) (a + 1) (nst_of f) (omega arith) l

  earlier_found : (t : Place → Place → Bool) (m : ℕ) → later_to t f (nst_of f) m < nst_of f → m < nst_of f → Found (has_later t f (nst_of f)) 0 (nst_of f) (earlier_to t f (nst_of f))
  unfolding earlier_to
  earlier_found t m l h = sought (has_later t f (nst_of f)) 0 (nst_of f) m (omega arith) h (lt-ltb (later_to t f (nst_of f) m) (nst_of f) l)

  -- no pair from a stream that has none behind it
  none_behind : (t : Place → Place → Bool) (a b : ℕ) → a < b → b < nst_of f → has_later t f (nst_of f) a ≡ false → t (place_at f a) (place_at f b) ≡ false
  unfolding later_to
  none_behind t a b l h e = go (of_two t f a b) refl
    where
      go : (c : Bool) → of_two t f a b ≡ c → c ≡ false
      go false d = refl
      go true d =
          let r = sought (of_two t f a) (a + 1) (nst_of f) b (omega arith) h d in
          absurd (omega (arith, ltb-false (seek_to (of_two t f a) (a + 1) (nst_of f)) (nst_of f) e, r.within))

  named : (t : Place → Place → Bool) {m : ℕ} → later_to t f (nst_of f) m < nst_of f → m < nst_of f → FirstTwo t f (pair_to t f (nst_of f)).first (pair_to t f (nst_of f)).second
  unfolding pair_to
  named t {m} l h =
      let r = earlier_found t m l h in
      let z = later_found t (earlier_to t f (nst_of f)) r.within (ltb-true (later_to t f (nst_of f) (earlier_to t f (nst_of f))) (nst_of f) r.holds) in
      rw (lt-ltb (earlier_to t f (nst_of f)) (nst_of f) r.within)
      (record {
        later = omega (arith, z.from);
        within = z.within;
        holds = z.holds;
        none_before = λ (a b : ℕ) (x : a < earlier_to t f (nst_of f)) (y : a < b) (k : b < nst_of f). none_behind t a b y k (r.none_before a (omega arith) x);
        none_between = λ (b : ℕ) (x : earlier_to t f (nst_of f) < b) (y : b < later_to t f (nst_of f) (earlier_to t f (nst_of f))). z.none_before b (omega arith) y;
      })

  two_first : (t : Place → Place → Bool) → some_pair t (places_of f) ≡ true → FirstTwo t f (pair_to t f (nst_of f)).first (pair_to t f (nst_of f)).second
  two_first t h =
      let o = pair_found t (places_of f) h in
      let w : o.other < nst_of f = omega (arith, o.within, places_length f (nst_of f)) in
      let x : o.one < nst_of f = omega (arith, o.later, w) in
      let e : of_two t f o.one o.other ≡ true = both (places_at f o.one (nst_of f) x) (places_at f o.other (nst_of f) w) o.holds in
      named t (behind t o.one o.other o.later w e) x
    where
      both : {a b c d : Place} → a ≡ b → c ≡ d → t a c ≡ true → t b d ≡ true
      both p q k = sym (λ i. t (p i) (q i)) ∙ k

pub same_named : (f : List ℕ) → profile_of f ≡ 30 → FirstTwo same_scid f (two_of f).first (two_of f).second
unfolding two_by
same_named f e = rw e (two_first f same_scid (same_holds f e))

pub unsized_named : (f : List ℕ) → profile_of f ≡ 31 → FirstOne unsized f (two_of f).first
unfolding two_by
unsized_named f e = rw e (one_first f unsized (unsized_holds f e))

pub beyond_named : (f : List ℕ) → profile_of f ≡ 32 → FirstOne beyond f (two_of f).first
unfolding two_by
beyond_named f e = rw e (one_first f beyond (beyond_holds f e))

pub overlap_named : (f : List ℕ) → profile_of f ≡ 33 → FirstTwo meets f (two_of f).first (two_of f).second
unfolding two_by
overlap_named f e = rw e (two_first f meets (meets_holds f e))
