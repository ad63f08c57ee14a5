-- A map of the capacity units, in which those of the streams are marked one after another.
-- Assumes nothing.
use mathlib.Core.Bool.{Bool, true, false, ◌&&◌, ◌||◌}
use mathlib.Core.List.{List, [], ◌∷◌, ◌++◌}
use mathlib.Core.Logic.{◌⊎◌, inl, inr, ⊎_elim}
use mathlib.Core.Path.{◌≡◌, refl, sym, ap, ◌∙◌, subst}
use Prim.Native.Nat.{ℕ, zero, suc, ◌+◌, ◌-◌, ◌%◌, ◌≤◌, ◌<◌}
use native.Mathlib.Nat.{eq-or-lt_of_le, le_of_suc-le-suc}
use native.Mathlib.Numerals.{add-one}
use native.Mathlib.Omega.{arith}
use borrow.Author.Tests.{lt-ltb, le-leb, ltb-true, ltb-false, leb-true, eqb-true, eqb-false}
use lib.Dec.{eqb, ltb, leb}
use lib.ListN.{length, get_or, set}
use lib.Seq.{get_or-set_same, get_or-set_other}
use Rattle.frame.specs.Frame.{stream_of}
use Rattle.capacity.specs.Sizes.{units_in}
use Rattle.octets.proofs.Deciding.{or_assoc, or-false, neither, clash, both}
use Rattle.places.specs.declared.Place.{Place}
use Rattle.places.specs.Places.{place_of, places_to, some, some_pair, beyond, meets}
use Rattle.places.proofs.PlaceList.{places_more}
use Rattle.profile.specs.ProfileClauses.{place_by, laid_to, end_at, EndsBy, takes}
use Rattle.profile.proofs.Pairs.{or_swap, some_snoc, pair_snoc, none_at_all}
use Rattle.profile.proofs.Tables.{laid_more}
use Rattle.profile.proofs.Noting.{at_end, no_end, end_same}

-- ---- tests
same_when : (a b : Bool) → (a ≡ true → b ≡ true) → (b ≡ true → a ≡ true) → a ≡ b
same_when true b f g = sym (f refl)
same_when false true f g = g refl
same_when false false f g = refl

either : (a b : Bool) → (a || b) ≡ true → (a ≡ true) ⊎ (b ≡ true)
either true b e = inl refl
either false b e = inr e

or-true : (a b : Bool) → b ≡ true → (a || b) ≡ true
or-true true b e = refl
or-true false b e = e

true-or : (a b : Bool) → a ≡ true → (a || b) ≡ true
true-or a b e = rw e

some_same : (s t : Place → Bool) → ((q : Place) → s q ≡ t q) → (ps : List Place) → some s ps ≡ some t ps
unfolding some
some_same s t h [] = refl
some_same s t h (q ∷ ps) = rw (h q, some_same s t h ps)

some_or : (s t : Place → Bool) (ps : List Place) → some (λ (q : Place). s q || t q) ps ≡ (some s ps || some t ps)
unfolding some
some_or s t [] = refl
some_or s t (q ∷ ps) = rw (some_or s t ps) (or_swap (s q) (t q) (some s ps) (some t ps))

-- ---- in words of numbers
record Meet (a b : Place) : Type 0 where
  one : a.sad < a.end
  other : b.sad < b.end
  before : a.sad < b.end
  behind : b.sad < a.end

meets_says : (a b : Place) → meets a b ≡ true → Meet a b
unfolding meets
meets_says a b e =
    let x = both (ltb a.sad a.end && ltb b.sad b.end) (ltb a.sad b.end && ltb b.sad a.end) e in
    let y = both (ltb a.sad a.end) (ltb b.sad b.end) x.0 in
    let z = both (ltb a.sad b.end) (ltb b.sad a.end) x.1 in
    record { one = ltb-true _ _ y.0; other = ltb-true _ _ y.1; before = ltb-true _ _ z.0; behind = ltb-true _ _ z.1 }

says_meets : (a b : Place) → Meet a b → meets a b ≡ true
unfolding meets
says_meets a b m = rw (lt-ltb a.sad a.end m.one, lt-ltb b.sad b.end m.other, lt-ltb a.sad b.end m.before) (lt-ltb b.sad a.end m.behind)

within_says : (a b v : ℕ) → (leb a v && ltb v b) ≡ true → (a ≤ v) × (v < b)
within_says a b v e = let x = both (leb a v) (ltb v b) e in (leb-true a v x.0, ltb-true v b x.1)

says_within : (a b v : ℕ) → a ≤ v → v < b → (leb a v && ltb v b) ≡ true
says_within a b v h l = rw (le-leb a v h) (lt-ltb v b l)

-- ---- the stream cut off before unit u, and one unit more of it
abbrev cut : Place → ℕ → Place
cut p u = record { scid = p.scid; sad = p.sad; end = u; stl = p.stl }

module _ (p q : Place) (u : ℕ) (h : p.sad ≤ u) where
  cut_more : meets q (cut p (u + 1)) ≡ (meets q (cut p u) || takes u q)
  unfolding takes
  cut_more = same_when (meets q (cut p (u + 1))) (meets q (cut p u) || (leb q.sad u && ltb u q.end)) there back
    where
      there : meets q (cut p (u + 1)) ≡ true → (meets q (cut p u) || (leb q.sad u && ltb u q.end)) ≡ true
      there e = go (meets_says q (cut p (u + 1)) e) (ltb u q.end) refl
        where
          go : Meet q (cut p (u + 1)) → (b : Bool) → ltb u q.end ≡ b → (meets q (cut p u) || (leb q.sad u && ltb u q.end)) ≡ true
          go m true d = or-true (meets q (cut p u)) _ (says_within q.sad q.end u (omega (arith, m.before)) (ltb-true u q.end d))
          go m false d =
              let k : q.end ≤ u = ltb-false u q.end d in
              true-or (meets q (cut p u)) _ (says_meets q (cut p u) (record { one = m.one; other = omega (arith, m.behind); before = omega (arith, m.one); behind = m.behind }))

      back : (meets q (cut p u) || (leb q.sad u && ltb u q.end)) ≡ true → meets q (cut p (u + 1)) ≡ true
      back e = ⊎_elim (λ (x : meets q (cut p u) ≡ true). longer (meets_says q (cut p u) x)) (λ (x : (leb q.sad u && ltb u q.end) ≡ true). held (within_says q.sad q.end u x)) (either (meets q (cut p u)) _ e)
        where
          longer : Meet q (cut p u) → meets q (cut p (u + 1)) ≡ true
          longer m = says_meets q (cut p (u + 1)) (record { one = m.one; other = omega arith; before = omega (arith, m.before); behind = m.behind })

          held : (q.sad ≤ u) × (u < q.end) → meets q (cut p (u + 1)) ≡ true
          held w = says_meets q (cut p (u + 1)) (record { one = omega (arith, w.0, w.1); other = omega arith; before = omega (arith, w.0); behind = omega (arith, w.1) })

-- cut off at its end, or before a first unit that it does not have
module _ (p : Place) (u : ℕ) (h : p.sad ≤ u) (l : p.end ≤ u) (k : u - p.sad ≤ p.end - p.sad) where
  cut_whole : (q : Place) → meets q (cut p u) ≡ meets q p
  cut_whole q = same_when (meets q (cut p u)) (meets q p) (λ e. there (meets_says q (cut p u) e)) (λ e. back (meets_says q p e))
    where
      there : Meet q (cut p u) → meets q p ≡ true
      there m = says_meets q p (record { one = m.one; other = omega (arith, m.other); before = omega (arith, m.before, m.other); behind = m.behind })

      back : Meet q p → meets q (cut p u) ≡ true
      back m = says_meets q (cut p u) (record { one = m.one; other = omega (arith, m.other); before = omega (arith, m.before); behind = m.behind })

  units_whole : (v : ℕ) → (leb p.sad v && ltb v u) ≡ takes v p
  unfolding takes
  units_whole v = same_when _ _ (λ e. there (within_says p.sad u v e)) (λ e. back (within_says p.sad p.end v e))
    where
      there : (p.sad ≤ v) × (v < u) → (leb p.sad v && ltb v p.end) ≡ true
      there w = says_within p.sad p.end v w.0 (omega (arith, w.0, w.1))

      back : (p.sad ≤ v) × (v < p.end) → (leb p.sad v && ltb v u) ≡ true
      back w = says_within p.sad u v w.0 (omega (arith, w.1))

-- ---- the map
abbrev pub Mapped : List Bool → List Place → Type 0
Mapped map ps = (v : ℕ) → v < 864 → get_or map v false ≡ some (takes v) ps

-- and of one stream more the units before u
abbrev pub MappedTo : List Bool → List Place → Place → ℕ → Type 0
MappedTo map ps p u = (v : ℕ) → v < 864 → get_or map v false ≡ (some (takes v) ps || (leb p.sad v && ltb v u))

abbrev pub MetTo : Bool → List Place → Place → ℕ → Type 0
MetTo found ps p u = found ≡ (some_pair meets ps || some (λ (q : Place). meets q (cut p u)) ps)

module _ (ps : List Place) (p : Place) (u : ℕ) where
  -- no unit yet
  pub map-begins : (map : List Bool) → u ≡ p.sad → Mapped map ps → MappedTo map ps p u
  map-begins map e h v l =
      let none : (leb p.sad v && ltb v u) ≡ false = same_when _ false (λ d. let w = within_says p.sad u v d in absurd (omega (arith, w.0, w.1))) (λ d. clash (sym d)) in
      h v l ∙ sym (or-false (some (takes v) ps)) ∙ ap (λ (b : Bool). some (takes v) ps || b) (sym none)

  pub met_begins : (found : Bool) → u ≡ p.sad → found ≡ some_pair meets ps → MetTo found ps p u
  met_begins found e h =
      let apart : (q : Place) → meets q (cut p u) ≡ false = λ (q : Place). same_when _ false (λ d. let m = meets_says q (cut p u) d in absurd (omega (arith, m.other))) (λ d. clash (sym d)) in
      h ∙ sym (or-false (some_pair meets ps)) ∙ ap (λ (b : Bool). some_pair meets ps || b) (sym (none_at_all (λ (q : Place). meets q (cut p u)) apart ps))

  -- one unit more
  pub map_more : (map : List Bool) → length map ≡ 864 → u < 864 → p.sad ≤ u → MappedTo map ps p u → MappedTo (set map u true) ps p (u + 1)
  map_more map e k s h v l = go (eqb v u) refl
    where
      go : (b : Bool) → eqb v u ≡ b → get_or (set map u true) v false ≡ (some (takes v) ps || (leb p.sad v && ltb v (u + 1)))
      go true d =
          let z : v ≡ u = eqb-true v u d in
          let w : get_or (set map u true) v false ≡ true = rw z (get_or-set_same map u true false (omega arith)) in
          w ∙ sym (or-true (some (takes v) ps) _ (says_within p.sad (u + 1) v (omega arith) (omega arith)))
      go false d =
          let n = eqb-false v u d in
          let there : (leb p.sad v && ltb v u) ≡ true → (leb p.sad v && ltb v (u + 1)) ≡ true = λ x. let w = within_says p.sad u v x in says_within p.sad (u + 1) v w.0 (omega (arith, w.1)) in
          let back : (leb p.sad v && ltb v (u + 1)) ≡ true → (leb p.sad v && ltb v u) ≡ true = λ x. let w = within_says p.sad (u + 1) v x in says_within p.sad u v w.0 (⊎_elim (λ (z : v ≡ u). absurd (n z)) (λ (z : v < u). z) (eq-or-lt_of_le (le_of_suc-le-suc (subst (λ (m : ℕ). v < m) (add-one u) w.1)))) in
          get_or-set_other map u v true false n ∙ h v l ∙ ap (λ (b : Bool). some (takes v) ps || b) (same_when _ _ there back)

  pub met_more : (map : List Bool) (found : Bool) → u < 864 → p.sad ≤ u → MappedTo map ps p u → MetTo found ps p u → MetTo (found || get_or map u false) ps p (u + 1)
  met_more map found k s h e =
      let fresh : (leb p.sad u && ltb u u) ≡ false = same_when _ false (λ d. let w = within_says p.sad u u d in absurd (omega (arith, w.1))) (λ d. clash (sym d)) in
      let m : get_or map u false ≡ some (takes u) ps = h u k ∙ ap (λ (b : Bool). some (takes u) ps || b) fresh ∙ or-false (some (takes u) ps) in
      let w : some (λ (q : Place). meets q (cut p (u + 1))) ps ≡ (some (λ (q : Place). meets q (cut p u)) ps || some (takes u) ps) =
      some_same _ _ (λ (q : Place). cut_more p q u s) ps ∙ some_or (λ (q : Place). meets q (cut p u)) (takes u) ps in
      rw (e, m, w) (or_assoc (some_pair meets ps) (some (λ (q : Place). meets q (cut p u)) ps) (some (takes u) ps))

  -- all of them
  module _ (s : p.sad ≤ u) (l : p.end ≤ u) (k : u - p.sad ≤ p.end - p.sad) where
    pub map-ends : (map : List Bool) → MappedTo map ps p u → Mapped map (ps ++ (p ∷ []))
    map-ends map h v m = h v m ∙ ap (λ (b : Bool). some (takes v) ps || b) (units_whole p u s l k v) ∙ sym (some_snoc (takes v) ps p)

    pub met_ends : (found : Bool) → MetTo found ps p u → found ≡ some_pair meets (ps ++ (p ∷ []))
    met_ends found e = e ∙ ap (λ (b : Bool). some_pair meets ps || b) (some_same _ _ (cut_whole p u s l k) ps) ∙ sym (pair_snoc meets ps p)

-- ---- the streams of a frame
none_placed : (t : Place → Bool) (f : List ℕ) (n i : ℕ) → i < n → some t (places_to f n) ≡ false → t (place_of (stream_of f i)) ≡ false
unfolding places_to
none_placed t f zero i h e = absurd (omega arith)
none_placed t f (suc n) i h e =
    let o = neither (some t (places_to f n)) (t (place_of (stream_of f n))) (sym (some_snoc t (places_to f n) (place_of (stream_of f n))) ∙ e) in
    ⊎_elim (λ (d : i ≡ n). ap (λ (k : ℕ). t (place_of (stream_of f k))) d ∙ o.1) (λ (l : i < n). none_placed t f n i l o.0) (eq-or-lt_of_le (le_of_suc-le-suc h))

-- a unit of a stream that is not beyond the map
pub on_map : (f : List ℕ) (n i u : ℕ) → i < n → some beyond (places_to f n) ≡ false → (place_of (stream_of f i)).sad ≤ u → u < (place_of (stream_of f i)).end → u < 864
unfolding beyond
on_map f n i u h e s l =
    let d : beyond (place_of (stream_of f i)) ≡ false = none_placed beyond f n i h e in
    omega (arith, ltb-false 864 (place_of (stream_of f i)).end (rw (lt-ltb (place_of (stream_of f i)).sad (place_of (stream_of f i)).end (omega arith)) at d))

-- one stream of a frame more
module _ (f : List ℕ) (i u : ℕ) (s : (place_of (stream_of f i)).sad ≤ u) (l : (place_of (stream_of f i)).end ≤ u) (k : u - (place_of (stream_of f i)).sad ≤ (place_of (stream_of f i)).end - (place_of (stream_of f i)).sad) where
  pub map_on : (map : List Bool) → MappedTo map (places_to f i) (place_of (stream_of f i)) u → Mapped map (places_to f (i + 1))
  map_on map h = subst (Mapped map) (sym (places_more f i)) (map-ends (places_to f i) (place_of (stream_of f i)) u s l k map h)

  pub met_on : (found : Bool) → MetTo found (places_to f i) (place_of (stream_of f i)) u → found ≡ some_pair meets (places_to f (i + 1))
  met_on found e = met_ends (places_to f i) (place_of (stream_of f i)) u s l k found e ∙ ap (some_pair meets) (sym (places_more f i))

-- ---- the streams that two tables lay out
module _ (highs lows : List ℕ) where
  -- stream i
  abbrev pub at_row : ℕ → Place
  at_row i = place_by (get_or highs i 0) (get_or lows i 0)

  none_at : (t : Place → Bool) (n i : ℕ) → i < n → some t (laid_to highs lows n) ≡ false → t (at_row i) ≡ false
  unfolding laid_to
  none_at t zero i h e = absurd (omega arith)
  none_at t (suc n) i h e =
      let o = neither (some t (laid_to highs lows n)) (t (at_row n)) (sym (some_snoc t (laid_to highs lows n) (at_row n)) ∙ e) in
      ⊎_elim (λ (d : i ≡ n). ap (λ (k : ℕ). t (at_row k)) d ∙ o.1) (λ (l : i < n). none_at t n i l o.0) (eq-or-lt_of_le (le_of_suc-le-suc h))

  module _ (ends : List ℕ) (n i : ℕ) (h : i < n) (ended : EndsBy units_in highs lows ends n) where
    row_end : get_or ends i 0 ≡ end_at (at_row i)
    unfolding end_at
    row_end = ended i h ∙ end_same (get_or highs i 0 % 1024) (units_in (get_or lows i 0))

    -- a unit of a stream that is not beyond the map
    pub row_on_map : (u : ℕ) → some beyond (laid_to highs lows n) ≡ false → u < get_or ends i 0 → u < 864
    unfolding beyond
    row_on_map u e l = go (ltb (at_row i).sad (at_row i).end) refl
      where
        go : (b : Bool) → ltb (at_row i).sad (at_row i).end ≡ b → u < 864
        go false d = let z = no_end (at_row i) (ltb-false (at_row i).sad (at_row i).end d) in absurd (omega (arith, row_end, z))
        go true d =
            let z = at_end (at_row i) (ltb-true (at_row i).sad (at_row i).end d) in
            let v : beyond (at_row i) ≡ false = none_at beyond n i h e in
            let w : ltb 864 (at_row i).end ≡ false = rw d at v in
            omega (arith, row_end, z, ltb-false 864 (at_row i).end w)

    -- its units taken, up to where they end
    module _ (u : ℕ) (s : (at_row i).sad ≤ u) (l : get_or ends i 0 ≤ u) (k : u - (at_row i).sad ≤ get_or ends i 0 - (at_row i).sad) where
      row_whole : ((at_row i).end ≤ u) × (u - (at_row i).sad ≤ (at_row i).end - (at_row i).sad)
      row_whole = go (ltb (at_row i).sad (at_row i).end) refl
        where
          go : (b : Bool) → ltb (at_row i).sad (at_row i).end ≡ b → ((at_row i).end ≤ u) × (u - (at_row i).sad ≤ (at_row i).end - (at_row i).sad)
          go false d =
              let w = ltb-false (at_row i).sad (at_row i).end d in
              let z = no_end (at_row i) w in
              (omega (arith, w), omega (arith, row_end, z, k))
          go true d = let z = at_end (at_row i) (ltb-true (at_row i).sad (at_row i).end d) in (omega (arith, row_end, z), omega (arith, row_end, z, k))

      pub row_map_on : (map : List Bool) → MappedTo map (laid_to highs lows i) (at_row i) u → Mapped map (laid_to highs lows (i + 1))
      row_map_on map m = subst (Mapped map) (sym (laid_more highs lows i)) (map-ends (laid_to highs lows i) (at_row i) u s row_whole.0 row_whole.1 map m)

      pub row_met_on : (found : Bool) → MetTo found (laid_to highs lows i) (at_row i) u → found ≡ some_pair meets (laid_to highs lows (i + 1))
      row_met_on found e =
          met_ends (laid_to highs lows i) (at_row i) u s row_whole.0 row_whole.1 found e ∙ ap (some_pair meets) (sym (laid_more highs lows i))
