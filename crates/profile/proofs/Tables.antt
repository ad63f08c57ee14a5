-- Tables of 64 numbers, filled one after another; the streams that two tables of halves lay out.
-- Assumes nothing.
use mathlib.Core.Bool.{Bool, true, false, ◌&&◌, ◌||◌}
use mathlib.Core.List.{List, [], ◌∷◌, ◌++◌}
use mathlib.Core.Logic.{⊎_elim}
use mathlib.Core.Path.{◌≡◌, refl, sym, ap, ap₂, ◌∙◌}
use Prim.Native.Nat.{ℕ, zero, suc, ◌+◌, ◌*◌, ◌/◌, ◌%◌, ◌≤◌, ◌<◌}
use native.Mathlib.Nat.{eq-or-lt_of_le}
use native.Mathlib.Numerals.{add-one}
use native.Mathlib.Omega.{arith}
use borrow.Author.Tests.{le-ltb, ltb-false, eqb-true, eqb-false, eq-eqb}
use lib.Dec.{eqb, ltb}
use lib.ListN.{length, get_or, set, replicate, length-set}
use lib.Seq.{get_or-set_same, get_or-set_other}
use Rattle.octets.specs.Words.{two_at, word_at}
use Rattle.octets.proofs.Deciding.{neither}
use Rattle.frame.specs.Frame.{stream_by, stream_of}
use Rattle.capacity.specs.Sizes.{units_by, units_in, equal_in}
use Rattle.places.specs.declared.Place.{Place}
use Rattle.places.specs.Places.{place_of, places_to}
use Rattle.profile.specs.ProfileClauses.{Halved, place_by, laid_to, end_by}

-- ---- filled up to i
abbrev pub Filled : (ℕ → ℕ) → List ℕ → ℕ → Type 0
Filled g t i = (i ≤ 64) × (length t ≡ 64) × ((k : ℕ) → k < i → get_or t k 0 ≡ g k)

module _ (g : ℕ → ℕ) where
  pub fill_none : Filled g (replicate 64 0) 0
  fill_none = (omega arith, refl, λ (k : ℕ) (l : k < 0). absurd (omega arith))

  module _ (t : List ℕ) (i v : ℕ) (h : i < 64) (e : v ≡ g i) where
    pub fill_more : Filled g t i → Filled g (set t i v) (i + 1)
    fill_more f = (omega arith, length-set t i v ∙ f.1, at)
      where
        at : (k : ℕ) → k < i + 1 → get_or (set t i v) k 0 ≡ g k
        at k l = go (eqb k i) refl
          where
            go : (b : Bool) → eqb k i ≡ b → get_or (set t i v) k 0 ≡ g k
            go true d = let z = eqb-true k i d in rw z (get_or-set_same t i v 0 (omega (arith, f.1)) ∙ e)
            go false d =
                let n = eqb-false k i d in
                let m : k < i = ⊎_elim (λ (z : k ≡ i). absurd (n z)) (λ (z : k < i). z) (eq-or-lt_of_le (omega arith)) in
                get_or-set_other t i k v 0 n ∙ f.2 k m

-- each so far is a number of two bytes
abbrev pub Within : (ℕ → ℕ) → ℕ → Type 0
Within g i = (k : ℕ) → k < i → g k < 65536

pub within_more : (g : ℕ → ℕ) (i : ℕ) → g i < 65536 → Within g i → Within g (i + 1)
within_more g i b w k l = ⊎_elim (λ (z : k ≡ i). rw z b) (λ (z : k < i). w k z) (eq-or-lt_of_le (omega arith))

-- ---- ends
abbrev pub ending : (ℕ → ℕ) → List ℕ → List ℕ → ℕ → ℕ
ending size highs lows k = end_by (get_or highs k 0 % 1024) (size (get_or lows k 0))

pub equal_whole : (low : ℕ) → 32768 ≤ low → equal_in low ≡ units_in low
unfolding equal_in
equal_whole low h = rw (le-ltb low 32768 h)

-- of a half with equal protection, or with STL 0
pub equal_all : (low : ℕ) → (ltb low 32768 && ltb 0 (low % 1024)) ≡ false → equal_in low ≡ units_in low
unfolding equal_in units_by
equal_all low e = go (ltb low 32768) refl
  where
    go : (b : Bool) → ltb low 32768 ≡ b → equal_in low ≡ units_in low
    go false d = equal_whole low (ltb-false low 32768 d)
    go true d =
        let f : ltb 0 (low % 1024) ≡ false = rw d at e in
        let z : low % 1024 ≡ 0 = omega (arith, ltb-false 0 (low % 1024) f) in
        rw (d, eq-eqb (low % 1024) 0 z)

abbrev pub AllEqual : List ℕ → ℕ → Type 0
AllEqual lows i = (k : ℕ) → k < i → equal_in (get_or lows k 0) ≡ units_in (get_or lows k 0)

pub equal_more : (lows : List ℕ) (i : ℕ) (found : Bool) → (found ≡ false → AllEqual lows i) → (found || (ltb (get_or lows i 0) 32768 && ltb 0 (get_or lows i 0 % 1024))) ≡ false → AllEqual lows (i + 1)
equal_more lows i found h e k l =
    let o = neither found _ e in
    ⊎_elim (λ (z : k ≡ i). rw z (equal_all (get_or lows i 0) o.1)) (λ (z : k < i). h o.0 k z) (eq-or-lt_of_le (omega arith))

-- ---- the streams that two tables of halves lay out
pub laid_more : (highs lows : List ℕ) (n : ℕ) → laid_to highs lows (n + 1) ≡ laid_to highs lows n ++ (place_by (get_or highs n 0) (get_or lows n 0) ∷ [])
unfolding laid_to
laid_more highs lows n = ap (laid_to highs lows) (add-one n)

word_halves : (f : List ℕ) (p : ℕ) → word_at f p ≡ two_at f p * 65536 + two_at f (p + 2)
word_halves f p =
    let z : p + 3 ≡ p + 2 + 1 = omega arith in
    rw z (omega arith)

module _ (h l : ℕ) (a : h < 65536) (b : l < 65536) where
  stream_by_lem : stream_by (h * 65536 + l) ≡ record { scid = h / 1024 % 64; sad = h % 1024; tpl = l / 1024; stl = l % 1024 }
  stream_by_lem =
      let w : (h * 65536 + l) / 65536 ≡ h = omega arith in
      let v : (h * 65536 + l) / 67108864 ≡ h / 1024 = omega arith in
      let p : (h * 65536 + l) / 67108864 % 64 ≡ h / 1024 % 64 = ap (λ (n : ℕ). n % 64) v in
      let q : (h * 65536 + l) / 65536 % 1024 ≡ h % 1024 = ap (λ (n : ℕ). n % 1024) w in
      let r : (h * 65536 + l) / 1024 % 64 ≡ l / 1024 = omega arith in
      let s : (h * 65536 + l) / 1 % 1024 ≡ l % 1024 = omega arith in
      λ i. record { scid = p i; sad = q i; tpl = r i; stl = s i }

module _ (f : List ℕ) (n : ℕ) (highs lows : List ℕ) (m : n ≤ 64) (u : Halved f highs lows) where
  place_by_lem : (k : ℕ) → k < n → place_by (get_or highs k 0) (get_or lows k 0) ≡ place_of (stream_of f k)
  unfolding place_of stream_of
  place_by_lem k l =
      let h : get_or highs k 0 ≡ two_at f (8 + 4 * k) = u.above.each k (omega arith) in
      let g₀ : get_or lows k 0 ≡ two_at f (10 + 4 * k) = u.below.each k (omega arith) in
      let z : 10 + 4 * k ≡ 8 + 4 * k + 2 = omega arith in
      let g : get_or lows k 0 ≡ two_at f (8 + 4 * k + 2) = g₀ ∙ ap (two_at f) z in
      let p : 4 + (k + 1) * 4 ≡ 8 + 4 * k = omega arith in
      let d : word_at f (4 + (k + 1) * 4) ≡ get_or highs k 0 * 65536 + get_or lows k 0 = ap (word_at f) p ∙ word_halves f (8 + 4 * k) ∙ sym (ap₂ (λ (x y : ℕ). x * 65536 + y) h g) in
      sym (ap (λ (x : ℕ). place_of (stream_by x)) d ∙ ap place_of (stream_by_lem (get_or highs k 0) (get_or lows k 0) (omega (arith, h, u.above.bounded k (omega arith))) (omega (arith, g₀, u.below.bounded k (omega arith)))))

  laid_so_far : (k : ℕ) → k ≤ n → laid_to highs lows k ≡ places_to f k
  unfolding laid_to places_to
  laid_so_far zero l = refl
  laid_so_far (suc k) l = ap₂ (λ (ps : List Place) (p : Place). ps ++ (p ∷ [])) (laid_so_far k (omega arith)) (place_by_lem k (omega arith))

  pub laid_places : laid_to highs lows n ≡ places_to f n
  laid_places = laid_so_far n (omega arith)
