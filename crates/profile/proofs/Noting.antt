-- What is noted of one stream more.
-- Assumes nothing.
use mathlib.Core.Bool.{Bool, true, false, ◌&&◌, ◌||◌}
use mathlib.Core.List.{List, [], ◌∷◌, ◌++◌}
use mathlib.Core.Path.{◌≡◌, refl, sym, ap, ◌∙◌, subst}
use Prim.Native.Nat.{ℕ, zero, suc, ◌+◌, ◌%◌, ◌≤◌, ◌<◌}
use native.Mathlib.Omega.{arith}
use borrow.Author.Tests.{lt-ltb, le-ltb, le-leb, lt-leb, ltb-true, ltb-false, eq-eqb, ne_eqb, eqb-true, eqb-false}
use lib.Dec.{eqb, ltb}
use lib.ListN.{get_or}
use Rattle.frame.specs.Rules.{first}
use Rattle.octets.specs.Choice.{pick}
use Rattle.octets.proofs.Deciding.{neither, clash}
use Rattle.capacity.specs.Sizes.{units_in}
use Rattle.places.specs.declared.Place.{Place}
use Rattle.places.specs.Places.{some, some_pair, same_scid, unsized, beyond, meets, place_rules}
use Rattle.profile.specs.declared.Notes.{Notes}
use Rattle.profile.specs.ProfileClauses.{place_by, laid_to, end_by, end_at, EndsBy, past, ahead, Noted, Adds}
use Rattle.profile.proofs.Pairs.{some_snoc, pair_snoc, none_too, none_at_all}
use Rattle.profile.proofs.Tables.{laid_more}

and-false : (a : Bool) → (a && false) ≡ false
and-false true = refl
and-false false = refl

and-true : (a : Bool) → (a && true) ≡ a
and-true true = refl
and-true false = refl

-- a test that says `b` of the stream more
more : (t : Place → Bool) (ps : List Place) (p : Place) (x b : Bool) → x ≡ some t ps → t p ≡ b → (x || b) ≡ some t (ps ++ (p ∷ []))
more t ps p x b e d = rw (e, ← d) (sym (some_snoc t ps p))

apart_more : (ps : List Place) (p : Place) → some_pair meets ps ≡ false → some (λ (q : Place). meets q p) ps ≡ false → some_pair meets (ps ++ (p ∷ [])) ≡ false
apart_more ps p e d = pair_snoc meets ps p ∙ (rw (e, d))

past_more : (m : ℕ) (ps : List Place) (p : Place) → some (past m) ps ≡ false → past m p ≡ false → some (past m) (ps ++ (p ∷ [])) ≡ false
past_more m ps p e d = some_snoc (past m) ps p ∙ (rw (e, d))

-- ---- a stream without units
module _ (p : Place) (h : p.end ≤ p.sad) where
  bare_unsized : unsized p ≡ ltb 0 p.stl
  unfolding unsized
  bare_unsized = rw (le-leb p.end p.sad h) (and-true (ltb 0 p.stl))

  bare_beyond : beyond p ≡ false
  unfolding beyond
  bare_beyond = rw (le-ltb p.sad p.end h)

  bare_past : (m : ℕ) → past m p ≡ false
  unfolding past
  bare_past m = rw (le-ltb p.sad p.end h)

  bare_meets : (q : Place) → meets q p ≡ false
  unfolding meets
  bare_meets q = rw (le-ltb p.sad p.end h, and-false (ltb q.sad q.end))

-- ---- one with units
module _ (p : Place) (h : p.sad < p.end) where
  held_unsized : unsized p ≡ false
  unfolding unsized
  held_unsized = rw (lt-leb p.end p.sad h) (and-false (ltb 0 p.stl))

  held_beyond : beyond p ≡ ltb 864 p.end
  unfolding beyond
  held_beyond = rw (lt-ltb p.sad p.end h)

  own_past : past p.end p ≡ false
  unfolding past
  own_past = rw (lt-ltb p.sad p.end h) (le-ltb p.end p.end (omega arith))

-- in order: one that ends at m or before it neither meets the stream nor ends behind it
module _ (p : Place) (m : ℕ) (h : p.sad < p.end) (l : m ≤ p.sad) (q : Place) where
  behind_meets : past m q ≡ false → meets q p ≡ false
  unfolding past meets
  behind_meets e = go (ltb q.sad q.end) refl
    where
      go : (b : Bool) → ltb q.sad q.end ≡ b → ((ltb q.sad q.end && ltb p.sad p.end) && (ltb q.sad p.end && ltb p.sad q.end)) ≡ false
      go false d = rw d
      go true d =
          let z : ltb m q.end ≡ false = rw d at e in
          let k : q.end ≤ p.sad = omega (arith, ltb-false m q.end z) in
          rw (le-ltb p.sad q.end k, and-false (ltb q.sad p.end)) (and-false (ltb q.sad q.end && ltb p.sad p.end))

  behind_past : past m q ≡ false → past p.end q ≡ false
  unfolding past
  behind_past e = go (ltb q.sad q.end) refl
    where
      go : (b : Bool) → ltb q.sad q.end ≡ b → (ltb q.sad q.end && ltb p.end q.end) ≡ false
      go false d = rw d
      go true d =
          let z : ltb m q.end ≡ false = rw d at e in
          let k : q.end ≤ p.end = omega (arith, ltb-false m q.end z) in
          rw (le-ltb p.end q.end k) (and-false (ltb q.sad q.end))

-- ---- the notes of one stream more; m is where it ends
pub at_end : (p : Place) → p.sad < p.end → end_at p ≡ p.end
unfolding end_at
at_end p h = rw (lt-ltb p.sad p.end h)

pub no_end : (p : Place) → p.end ≤ p.sad → end_at p ≡ 0
unfolding end_at
no_end p h = rw (le-ltb p.sad p.end h)

abbrev notes_by : Notes → ℕ → ℕ → ℕ → Notes
notes_by notes sad stl m =
    record {
      sizeless = notes.sizeless || (ltb 0 stl && eqb m 0);
      beyond = notes.beyond || ltb 864 m;
      crossed = notes.crossed || (eqb m 0 || ltb sad notes.reach);
      reach = m;
    }

module _ (notes : Notes) (p : Place) (m : ℕ) where
  bare : p.end ≤ p.sad → m ≡ 0 → Adds notes p (notes_by notes p.sad p.stl m)
  bare h z ps e =
      record {
        sizes = more unsized ps p notes.sizeless (ltb 0 p.stl && eqb m 0) e.sizes (bare_unsized p h ∙ sym (and-true (ltb 0 p.stl)) ∙ ap (λ (b : Bool). ltb 0 p.stl && b) (sym (eq-eqb m 0 z)));
        within = more beyond ps p notes.beyond (ltb 864 m) e.within (bare_beyond p h ∙ sym (le-ltb 864 m (omega arith)));
        apart = λ (c : (notes.crossed || (eqb m 0 || ltb p.sad notes.reach)) ≡ false). clash (sym (eq-eqb m 0 z) ∙ (neither (eqb m 0) _ (neither notes.crossed _ c).1).0);
      }

  held : p.sad < p.end → m ≡ p.end → Adds notes p (notes_by notes p.sad p.stl m)
  held h o ps e =
      let n : eqb m 0 ≡ false = ne_eqb m 0 (λ (z : m ≡ 0). omega arith) in
      record {
        sizes = more unsized ps p notes.sizeless (ltb 0 p.stl && eqb m 0) e.sizes (held_unsized p h ∙ sym (and-false (ltb 0 p.stl)) ∙ ap (λ (b : Bool). ltb 0 p.stl && b) (sym n));
        within = more beyond ps p notes.beyond (ltb 864 m) e.within (held_beyond p h ∙ ap (ltb 864) (sym o));
        apart = λ (c : (notes.crossed || (eqb m 0 || ltb p.sad notes.reach)) ≡ false).
            let x = neither notes.crossed _ c in
            let r : notes.reach ≤ p.sad = ltb-false p.sad notes.reach (neither (eqb m 0) _ x.1).1 in
            let a = e.apart x.0 in
            (apart_more ps p a.0 (none_too (past notes.reach) (λ (q : Place). meets q p) (behind_meets p notes.reach h r) ps a.1), subst (λ (y : ℕ). some (past y) (ps ++ (p ∷ [])) ≡ false) (sym o) (past_more p.end ps p (none_too (past notes.reach) (past p.end) (behind_past p notes.reach h r) ps a.1) (own_past p h)));
      }

  with_end : m ≡ end_at p → Adds notes p (notes_by notes p.sad p.stl m)
  with_end o = go (ltb p.sad p.end) refl
    where
      go : (b : Bool) → ltb p.sad p.end ≡ b → Adds notes p (notes_by notes p.sad p.stl m)
      go true d = let h = ltb-true p.sad p.end d in held h (o ∙ at_end p h)
      go false d = let h = ltb-false p.sad p.end d in bare h (o ∙ no_end p h)

pub noted : (notes : Notes) (p : Place) (sad stl m : ℕ) → sad ≡ p.sad → stl ≡ p.stl → m ≡ end_at p → Adds notes p (notes_by notes sad stl m)
noted notes p sad stl m a b o =
    subst (λ (x : ℕ). Adds notes p (notes_by notes x stl m)) (sym a)
    (subst (λ (y : ℕ). Adds notes p (notes_by notes p.sad y m)) (sym b) (with_end notes p m o))

-- where a stream of a table ends
pub end_same : (sad units : ℕ) → end_by sad units ≡ pick (ltb sad (sad + units)) (sad + units) 0
unfolding end_by
end_same sad units = go (eqb units 0) refl
  where
    go : (b : Bool) → eqb units 0 ≡ b → pick (eqb units 0) 0 (sad + units) ≡ pick (ltb sad (sad + units)) (sad + units) 0
    go true d = let z = eqb-true units 0 d in rw (d, le-ltb sad (sad + units) (omega arith))
    go false d = let n : 0 < units = positive units (eqb-false units 0 d) in rw (d, lt-ltb sad (sad + units) (omega arith))
      where
        positive : (n : ℕ) → (n ≡ 0 → ⊥) → 0 < n
        positive zero h = absurd (h refl)
        positive (suc n) h = omega arith

pub noted_on : (highs lows ends : List ℕ) (n i : ℕ) (notes r : Notes) → i < n → EndsBy units_in highs lows ends n → Noted (laid_to highs lows i) notes
    → ((p : Place) → get_or highs i 0 % 1024 ≡ p.sad → get_or lows i 0 % 1024 ≡ p.stl → get_or ends i 0 ≡ end_at p → Adds notes p r)
    → Noted (laid_to highs lows (i + 1)) r
unfolding end_at
noted_on highs lows ends n i notes r h e d a =
    subst (λ (ps : List Place). Noted ps r) (sym (laid_more highs lows i))
    (a (place_by (get_or highs i 0) (get_or lows i 0)) refl refl (e i h ∙ end_same (get_or highs i 0 % 1024) (units_in (get_or lows i 0))) (laid_to highs lows i) d)

-- ---- the number by the SCIDs, and where they differ by the notes
pub told_30 : (ps : List Place) (t n : ℕ) → ltb t n ≡ some_pair same_scid ps → t < n → 30 ≡ first (place_rules ps)
told_30 ps t n s a = rw (← s, lt-ltb t n a)

module _ (ps : List Place) (a : some_pair same_scid ps ≡ false) (r : Notes) (d : Noted ps r) where
  pub told_31 : r.sizeless ≡ true → 31 ≡ first (place_rules ps)
  told_31 b = rw (a, ← d.sizes, b)

  module _ (b : r.sizeless ≡ false) where
    pub told_32 : r.beyond ≡ true → 32 ≡ first (place_rules ps)
    told_32 c = rw (a, ← d.sizes, b, ← d.within, c)

    module _ (c : r.beyond ≡ false) where
      pub told_33 : (m : Bool) → m ≡ some_pair meets ps → m ≡ true → 33 ≡ first (place_rules ps)
      told_33 m e k = rw (a, ← d.sizes, b, ← d.within, c, ← e, k)

      pub told_none : (m : Bool) → m ≡ some_pair meets ps → m ≡ false → 0 ≡ first (place_rules ps)
      told_none m e k = rw (a, ← d.sizes, b, ← d.within, c, ← e, k)

      pub told_ordered : r.crossed ≡ false → 0 ≡ first (place_rules ps)
      told_ordered k = told_none false (sym (d.apart k).0) refl

-- ---- in order but for streams without units: as long as none crosses no two meet, and all end where the last one with units does
abbrev pub Risen : List Place → Bool → ℕ → Type 0
Risen ps found m = found ≡ false → (some_pair meets ps ≡ false) × (some (past m) ps ≡ false)

risen_more : (ps : List Place) (p : Place) (found : Bool) (m e : ℕ) → e ≡ end_at p → Risen ps found m → Risen (ps ++ (p ∷ [])) (found || (ltb 0 e && ltb p.sad m)) (pick (eqb e 0) m e)
risen_more ps p found m e o d c = go (ltb p.sad p.end) refl
  where
    go : (b : Bool) → ltb p.sad p.end ≡ b → (some_pair meets (ps ++ (p ∷ [])) ≡ false) × (some (past (pick (eqb e 0) m e)) (ps ++ (p ∷ [])) ≡ false)
    go false x =
        let h = ltb-false p.sad p.end x in
        let z : e ≡ 0 = o ∙ no_end p h in
        let a = d (neither found (ltb 0 e && ltb p.sad m) c).0 in
        (apart_more ps p a.0 (none_at_all (λ (q : Place). meets q p) (bare_meets p h) ps), rw (eq-eqb e 0 z) (past_more m ps p a.1 (bare_past p h m)))
    go true x =
        let h = ltb-true p.sad p.end x in
        let w : e ≡ p.end = o ∙ at_end p h in
        let y = neither found (ltb 0 e && ltb p.sad m) c in
        let v : ltb p.sad m ≡ false = rw (lt-ltb 0 e (omega arith)) at y.1 in
        let r : m ≤ p.sad = ltb-false p.sad m v in
        let a = d y.0 in
        let n : eqb e 0 ≡ false = ne_eqb e 0 (λ (z : e ≡ 0). omega arith) in (
          apart_more ps p a.0 (none_too (past m) (λ (q : Place). meets q p) (behind_meets p m h r) ps a.1),
          rw (n, w) (past_more p.end ps p (none_too (past m) (past p.end) (behind_past p m h r) ps a.1) (own_past p h)),
        )

pub risen_on : (highs lows ends : List ℕ) (n i : ℕ) (found : Bool) (m r : ℕ) → i < n → EndsBy units_in highs lows ends n → r ≡ pick (eqb (get_or ends i 0) 0) m (get_or ends i 0) → Risen (laid_to highs lows i) found m
    → Risen (laid_to highs lows (i + 1)) (found || (ltb 0 (get_or ends i 0) && ltb (get_or highs i 0 % 1024) m)) r
unfolding end_at
risen_on highs lows ends n i found m r h e k d =
    rw (k, laid_more highs lows i)
    (risen_more (laid_to highs lows i) (place_by (get_or highs i 0) (get_or lows i 0)) found m (get_or ends i 0) (e i h ∙ end_same (get_or highs i 0 % 1024) (units_in (get_or lows i 0))) d)

-- ---- in the other order
module _ (p : Place) (m : ℕ) (h : p.sad < p.end) (l : p.end ≤ m) (q : Place) where
  before_meets : ahead m q ≡ false → meets q p ≡ false
  unfolding ahead meets
  before_meets e = go (ltb q.sad q.end) refl
    where
      go : (b : Bool) → ltb q.sad q.end ≡ b → ((ltb q.sad q.end && ltb p.sad p.end) && (ltb q.sad p.end && ltb p.sad q.end)) ≡ false
      go false d = rw d
      go true d =
          let z : ltb q.sad m ≡ false = rw d at e in
          let k : p.end ≤ q.sad = omega (arith, ltb-false q.sad m z) in
          rw (le-ltb q.sad p.end k) (and-false (ltb q.sad q.end && ltb p.sad p.end))

  before_ahead : ahead m q ≡ false → ahead p.sad q ≡ false
  unfolding ahead
  before_ahead e = go (ltb q.sad q.end) refl
    where
      go : (b : Bool) → ltb q.sad q.end ≡ b → (ltb q.sad q.end && ltb q.sad p.sad) ≡ false
      go false d = rw d
      go true d =
          let z : ltb q.sad m ≡ false = rw d at e in
          let k : p.sad ≤ q.sad = omega (arith, ltb-false q.sad m z) in
          rw (le-ltb q.sad p.sad k) (and-false (ltb q.sad q.end))

own_ahead : (p : Place) → ahead p.sad p ≡ false
unfolding ahead
own_ahead p = rw (le-ltb p.sad p.sad (omega arith)) (and-false (ltb p.sad p.end))

-- as long as none rises no two meet, and none begins before the last
abbrev pub Fallen : List Place → Bool → ℕ → Type 0
Fallen ps found m = found ≡ false → (some_pair meets ps ≡ false) × (some (ahead m) ps ≡ false)

fallen_more : (ps : List Place) (p : Place) (found : Bool) (m e : ℕ) → e ≡ end_at p → Fallen ps found m → Fallen (ps ++ (p ∷ [])) (found || (eqb e 0 || ltb m e)) p.sad
fallen_more ps p found m e o d c = go (ltb p.sad p.end) refl
  where
    go : (b : Bool) → ltb p.sad p.end ≡ b → (some_pair meets (ps ++ (p ∷ [])) ≡ false) × (some (ahead p.sad) (ps ++ (p ∷ [])) ≡ false)
    go false x =
        let z : e ≡ 0 = o ∙ no_end p (ltb-false p.sad p.end x) in
        clash (sym (eq-eqb e 0 z) ∙ (neither (eqb e 0) (ltb m e) (neither found (eqb e 0 || ltb m e) c).1).0)
    go true x =
        let h = ltb-true p.sad p.end x in
        let y = neither found (eqb e 0 || ltb m e) c in
        let k = ltb-false m e (neither (eqb e 0) (ltb m e) y.1).1 in
        let l : p.end ≤ m = omega (arith, at_end p h) in
        let a = d y.0 in (
          apart_more ps p a.0 (none_too (ahead m) (λ (q : Place). meets q p) (before_meets p m h l) ps a.1),
          some_snoc (ahead p.sad) ps p ∙ rw (none_too (ahead m) (ahead p.sad) (before_ahead p m h l) ps a.1) (own_ahead p),
        )

pub fallen_on : (highs lows ends : List ℕ) (n i : ℕ) (found : Bool) (m : ℕ) → i < n → EndsBy units_in highs lows ends n → Fallen (laid_to highs lows i) found m
    → Fallen (laid_to highs lows (i + 1)) (found || (eqb (get_or ends i 0) 0 || ltb m (get_or ends i 0))) (get_or highs i 0 % 1024)
unfolding end_at
fallen_on highs lows ends n i found m h e d =
    subst (λ (ps : List Place). Fallen ps (found || (eqb (get_or ends i 0) 0 || ltb m (get_or ends i 0))) (get_or highs i 0 % 1024)) (sym (laid_more highs lows i))
    (fallen_more (laid_to highs lows i) (place_by (get_or highs i 0) (get_or lows i 0)) found m (get_or ends i 0) (e i h ∙ end_same (get_or highs i 0 % 1024) (units_in (get_or lows i 0))) d)
