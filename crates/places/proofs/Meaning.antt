-- The number is 0 exactly when the frame passes; another number is that of the first condition that holds.
-- Assumes nothing.
use mathlib.Core.Bool.{Bool, true, false, ◌&&◌, ◌||◌}
use mathlib.Core.List.{List, [], ◌∷◌}
use mathlib.Core.Path.{◌≡◌, refl, sym, ap, ◌∙◌}
use Prim.Native.Nat.{ℕ, zero, suc, ◌≤◌, ◌<◌}
use native.Mathlib.Omega.{arith}
use borrow.Author.Tests.{ne_eqb, eqb-true, eqb-false, lt-ltb, ltb-true, ltb-false, lt-leb, leb-true, leb-false}
use lib.Dec.{eqb, ltb, leb}
use lib.ListN.{length, get_or}
use Rattle.octets.proofs.Deciding.{neither, clash, both}
use Rattle.frame.specs.Rules.{first, NoneHold, FirstToHold, Settled, rules_of, refusal_of}
use Rattle.frame.proofs.Accepting.{nothing}
use Rattle.frame.proofs.FirstRule.{only, given, none_hold, none_first, first_zero, first_found}
use Rattle.places.specs.declared.Place.{Place}
use Rattle.places.specs.Places.{no_place, places_of, some, some_pair, same_scid, unsized, beyond, meets, place_rules, profile_rules_of, profile_of, Holds, PassesAll, Passes, HoldsOfOne, HoldsOfTwo}

or-none : (a b : Bool) → a ≡ false → b ≡ false → (a || b) ≡ false
or-none a b p q = rw (p, q)

-- ---- no stream, no two streams
some_none : (t : Place → Bool) (ps : List Place) → some t ps ≡ false → (i : ℕ) → i < length ps → t (get_or ps i no_place) ≡ false
unfolding some
some_none t [] h i k = absurd (omega arith)
some_none t (p ∷ ps) h zero k = (neither (t p) (some t ps) h).0
some_none t (p ∷ ps) h (suc i) k = some_none t ps (neither (t p) (some t ps) h).1 i (omega arith)

none_some : (t : Place → Bool) (ps : List Place) → ((i : ℕ) → i < length ps → t (get_or ps i no_place) ≡ false) → some t ps ≡ false
unfolding some
none_some t [] h = refl
none_some t (p ∷ ps) h = or-none (t p) (some t ps) (h 0 (omega arith)) (none_some t ps (λ (i : ℕ) (k : i < length ps). h (suc i) (omega arith)))

pair_none : (t : Place → Place → Bool) (ps : List Place) → some_pair t ps ≡ false → (i j : ℕ) → i < j → j < length ps → t (get_or ps i no_place) (get_or ps j no_place) ≡ false
unfolding some_pair
pair_none t [] h i j l k = absurd (omega arith)
pair_none t (p ∷ ps) h i zero l k = absurd (omega arith)
pair_none t (p ∷ ps) h zero (suc j) l k = some_none (t p) ps (neither (some (t p) ps) (some_pair t ps) h).0 j (omega arith)
pair_none t (p ∷ ps) h (suc i) (suc j) l k = pair_none t ps (neither (some (t p) ps) (some_pair t ps) h).1 i j (omega arith) (omega arith)

none_pair : (t : Place → Place → Bool) (ps : List Place) → ((i j : ℕ) → i < j → j < length ps → t (get_or ps i no_place) (get_or ps j no_place) ≡ false) → some_pair t ps ≡ false
unfolding some_pair
none_pair t [] h = refl
none_pair t (p ∷ ps) h =
    or-none (some (t p) ps) (some_pair t ps)
    (none_some (t p) ps (λ (j : ℕ) (k : j < length ps). h 0 (suc j) (omega arith) (omega arith)))
    (none_pair t ps (λ (i j : ℕ) (l : i < j) (k : j < length ps). h (suc i) (suc j) (omega arith) (omega arith)))

-- ---- what each test says
not_same : (a b : Place) → same_scid a b ≡ false → a.scid ≡ b.scid → ⊥
unfolding same_scid
not_same a b h = eqb-false a.scid b.scid h

same_not : (a b : Place) → (a.scid ≡ b.scid → ⊥) → same_scid a b ≡ false
unfolding same_scid
same_not a b h = ne_eqb a.scid b.scid h

not-unsized : (p : Place) → unsized p ≡ false → 0 < p.stl → p.sad < p.end
unfolding unsized
not-unsized p h k = leb-false p.end p.sad (rw (lt-ltb 0 p.stl k) at h)

unsized_not : (p : Place) → (0 < p.stl → p.sad < p.end) → unsized p ≡ false
unfolding unsized
unsized_not p h = go (ltb 0 p.stl) refl
  where
    go : (b : Bool) → ltb 0 p.stl ≡ b → (b && leb p.end p.sad) ≡ false
    go true e = lt-leb p.end p.sad (h (ltb-true 0 p.stl e))
    go false e = refl

not_beyond : (p : Place) → beyond p ≡ false → (u : ℕ) → Holds p u → u ≤ 863
unfolding beyond
not_beyond p h u o =
    let k : p.sad < p.end = omega (arith, o.from, o.below) in
    let e : ltb 864 p.end ≡ false = rw (lt-ltb p.sad p.end k) at h in
    omega (arith, ltb-false 864 p.end e, o.below)

beyond_not : (p : Place) → ((u : ℕ) → Holds p u → u ≤ 863) → beyond p ≡ false
unfolding beyond
beyond_not p h = go (ltb p.sad p.end) (ltb 864 p.end) refl refl
  where
    go : (a b : Bool) → ltb p.sad p.end ≡ a → ltb 864 p.end ≡ b → (a && b) ≡ false
    go false b d e = refl
    go true false d e = refl
    go true true d e =
        let k = ltb-true p.sad p.end d in
        let l = ltb-true 864 p.end e in
        let far : (u : ℕ) → p.sad ≤ u → u < p.end → u ≤ 863 = λ (u : ℕ) (x : p.sad ≤ u) (y : u < p.end). h u (record { from = x; below = y }) in
        absurd (last far k l (leb p.sad 864) refl)
      where
        last : ((u : ℕ) → p.sad ≤ u → u < p.end → u ≤ 863) → p.sad < p.end → 864 < p.end → (c : Bool) → leb p.sad 864 ≡ c → ⊥
        last far k l true w = omega (arith, far 864 (leb-true p.sad 864 w) l)
        last far k l false w = omega (arith, far p.sad (omega arith) k, leb-false p.sad 864 w)

apart_none : (a b : Place) → meets a b ≡ false → (u : ℕ) → Holds a u → Holds b u → ⊥
unfolding meets
apart_none a b h u x y =
    let p : a.sad < a.end = omega (arith, x.from, x.below) in
    let q : b.sad < b.end = omega (arith, y.from, y.below) in
    let r : a.sad < b.end = omega (arith, x.from, y.below) in
    let s : b.sad < a.end = omega (arith, y.from, x.below) in
    clash (rw (lt-ltb a.sad a.end p, lt-ltb b.sad b.end q, lt-ltb a.sad b.end r, lt-ltb b.sad a.end s) at h)

shared : (a b : Place) → a.sad < a.end → b.sad < b.end → a.sad < b.end → b.sad < a.end → ((u : ℕ) → Holds a u → Holds b u → ⊥) → ⊥
shared a b p q r s h = go (leb a.sad b.sad) refl
  where
    go : (c : Bool) → leb a.sad b.sad ≡ c → ⊥
    go true e = h b.sad (record { from = leb-true a.sad b.sad e; below = s }) (record { from = omega arith; below = q })
    go false e = h a.sad (record { from = omega arith; below = p }) (record { from = omega (arith, leb-false a.sad b.sad e); below = r })

meets_not : (a b : Place) → ((u : ℕ) → Holds a u → Holds b u → ⊥) → meets a b ≡ false
unfolding meets
meets_not a b h = go ((ltb a.sad a.end && ltb b.sad b.end) && (ltb a.sad b.end && ltb b.sad a.end)) refl
  where
    go : (c : Bool) → ((ltb a.sad a.end && ltb b.sad b.end) && (ltb a.sad b.end && ltb b.sad a.end)) ≡ c → c ≡ false
    go false e = refl
    go true e =
        let x = both (ltb a.sad a.end && ltb b.sad b.end) (ltb a.sad b.end && ltb b.sad a.end) e in
        let y = both (ltb a.sad a.end) (ltb b.sad b.end) x.0 in
        let z = both (ltb a.sad b.end) (ltb b.sad a.end) x.1 in
        absurd (shared a b (ltb-true _ _ y.0) (ltb-true _ _ y.1) (ltb-true _ _ z.0) (ltb-true _ _ z.1) h)

-- ---- all of it
passing : (ps : List Place) → NoneHold (place_rules ps) → PassesAll ps
passing ps h =
    record {
      scids = λ (i j : ℕ) (l : i < j) (k : j < length ps). not_same (get_or ps i no_place) (get_or ps j no_place) (pair_none same_scid ps h.0 i j l k);
      sized = λ (i : ℕ) (k : i < length ps). not-unsized (get_or ps i no_place) (some_none unsized ps h.1.0 i k);
      within = λ (i u : ℕ) (k : i < length ps). not_beyond (get_or ps i no_place) (some_none beyond ps h.1.1.0 i k) u;
      apart = λ (i j u : ℕ) (l : i < j) (k : j < length ps). apart_none (get_or ps i no_place) (get_or ps j no_place) (pair_none meets ps h.1.1.1.0 i j l k) u;
    }

passed : (ps : List Place) → PassesAll ps → NoneHold (place_rules ps)
passed ps a = (
  none_pair same_scid ps (λ (i j : ℕ) (l : i < j) (k : j < length ps). same_not (get_or ps i no_place) (get_or ps j no_place) (a.scids i j l k)),
  (
    none_some unsized ps (λ (i : ℕ) (k : i < length ps). unsized_not (get_or ps i no_place) (a.sized i k)),
    (
      none_some beyond ps (λ (i : ℕ) (k : i < length ps). beyond_not (get_or ps i no_place) (λ (u : ℕ). a.within i u k)),
      (
        none_pair meets ps (λ (i j : ℕ) (l : i < j) (k : j < length ps). meets_not (get_or ps i no_place) (get_or ps j no_place) (λ (u : ℕ). a.apart i j u l k)),
        tt,
      ),
    ),
  ),
)

-- reading's refusal comes first, so 0 is of an accepted frame
accepted_first : (f : List ℕ) → profile_of f ≡ 0 → refusal_of f ≡ 0
unfolding profile_of refusal_of
accepted_first f e = go (eqb (first (rules_of f)) 0) refl
  where
    go : (b : Bool) → eqb (first (rules_of f)) 0 ≡ b → first (rules_of f) ≡ 0
    go true h = eqb-true (first (rules_of f)) 0 h
    go false h =
        let n = eqb-false (first (rules_of f)) 0 h in
        absurd (n (sym (first_found (rules_of f) (place_rules (places_of f)) n) ∙ e))

places_first : (f : List ℕ) → refusal_of f ≡ 0 → profile_of f ≡ first (place_rules (places_of f))
unfolding profile_of
places_first f e = first_zero (rules_of f) (place_rules (places_of f)) (nothing f e)

-- a yes holds only when all this is so
pub yes_passes : (f : List ℕ) → profile_of f ≡ 0 → Passes f
yes_passes f e =
    let a = accepted_first f e in
    record { accepted = a; all = passing (places_of f) (none_hold (place_rules (places_of f)) (tt, (tt, (tt, (tt, tt)))) (sym (places_first f a) ∙ e)) }

-- and whenever it is
pub passes_yes : (f : List ℕ) → Passes f → profile_of f ≡ 0
passes_yes f p = places_first f p.accepted ∙ none_first (place_rules (places_of f)) (passed (places_of f) p.all)

-- any other number: its condition holds, and no earlier one does; and then it is given
pub settled : (f : List ℕ) → Settled (profile_rules_of f)
settled f = only (profile_rules_of f)

pub told : (f : List ℕ) (n : ℕ) → FirstToHold (profile_rules_of f) n → profile_of f ≡ n
unfolding profile_of
told f n h = ap first h.stands ∙ given h.earlier n h.later h.none

-- ---- a condition that holds, holds of some stream, of some two
pub some_found : (t : Place → Bool) (ps : List Place) → some t ps ≡ true → HoldsOfOne t ps
unfolding some
some_found t [] h = clash (sym h)
some_found t (p ∷ ps) h = go (t p) refl (some_found t ps) h
  where
    go : (b : Bool) → t p ≡ b → (some t ps ≡ true → HoldsOfOne t ps) → (b || some t ps) ≡ true → HoldsOfOne t (p ∷ ps)
    go true e ih k = record { at = 0; within = omega arith; holds = e }
    go false e ih k = let o = ih k in record { at = suc o.at; within = omega (arith, o.within); holds = o.holds }

pub pair_found : (t : Place → Place → Bool) (ps : List Place) → some_pair t ps ≡ true → HoldsOfTwo t ps
unfolding some_pair
pair_found t [] h = clash (sym h)
pair_found t (p ∷ ps) h = go (some (t p) ps) refl (pair_found t ps) h
  where
    go : (b : Bool) → some (t p) ps ≡ b → (some_pair t ps ≡ true → HoldsOfTwo t ps) → (b || some_pair t ps) ≡ true → HoldsOfTwo t (p ∷ ps)
    go true e ih k =
        let o = some_found (t p) ps e in
        record { one = 0; other = suc o.at; later = omega arith; within = omega (arith, o.within); holds = o.holds }
    go false e ih k =
        let o = ih k in
        record { one = suc o.one; other = suc o.other; later = omega (arith, o.later); within = omega (arith, o.within); holds = o.holds }
