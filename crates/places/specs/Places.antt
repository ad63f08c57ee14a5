-- The final-stage profile: the sub-channels of an accepted frame among the capacity units 0 to 863, their rules, and what the rules mean.
-- Assumes nothing.
use Rattle.std.specs.Prelude.{Bool, true, false, ◌&&◌, ◌||◌, List, [], ◌∷◌, ◌++◌, ◌≡◌, ℕ, zero, suc, ◌+◌, ◌≤◌, ◌<◌, eqb, ltb, leb, length, get_or}
use Rattle.frame.specs.declared.Stream.{Stream}
use Rattle.frame.specs.Frame.{nst_of, stream_of}
use Rattle.frame.specs.Rules.{Rule, ◌when◌, first, rules_of, refusal_of}
use Rattle.capacity.specs.Sizes.{units_by}
use Rattle.places.specs.declared.Place.{Place}

-- ---- a stream's capacity units are those from SAD up to end. A stream with STL 0 takes none
unfoldable pub place_of : Stream → Place
place_of s = record { scid = s.scid; sad = s.sad; end = s.sad + units_by s.tpl s.stl; stl = s.stl }

abbrev pub no_place : Place
no_place = record { scid = 0; sad = 0; end = 0; stl = 0 }

-- the first n streams
unfoldable pub places_to : List ℕ → ℕ → List Place
places_to f zero = []
places_to f (suc n) = places_to f n ++ (place_of (stream_of f n) ∷ [])

abbrev pub places_of : List ℕ → List Place
places_of f = places_to f (nst_of f)

-- ---- the conditions of one stream, of two
unfoldable pub same_scid : Place → Place → Bool
same_scid a b = eqb a.scid b.scid

-- it carries bytes, and its protection has no size
unfoldable pub unsized : Place → Bool
unsized p = ltb 0 p.stl && leb p.end p.sad

unfoldable pub beyond : Place → Bool
beyond p = ltb p.sad p.end && ltb 864 p.end

unfoldable pub meets : Place → Place → Bool
meets a b = (ltb a.sad a.end && ltb b.sad b.end) && (ltb a.sad b.end && ltb b.sad a.end)

-- some stream; some two, the first standing before the second
unfoldable pub some : (Place → Bool) → List Place → Bool
some t [] = false
some t (p ∷ ps) = t p || some t ps

unfoldable pub some_pair : (Place → Place → Bool) → List Place → Bool
some_pair t [] = false
some_pair t (p ∷ ps) = some (t p) ps || some_pair t ps

abbrev pub place_rules : List Place → List Rule
place_rules ps =
    (30 when some_pair same_scid ps)
    ∷ (31 when some unsized ps)
    ∷ (32 when some beyond ps)
    ∷ (33 when some_pair meets ps)
    ∷ []

-- reading's refusals first
abbrev pub profile_rules_of : List ℕ → List Rule
profile_rules_of f = rules_of f ++ place_rules (places_of f)

unfoldable pub profile_of : List ℕ → ℕ
profile_of f = first (profile_rules_of f)

-- ---- the meaning, apart from the way it is worked out
-- capacity unit u is one of the stream's
pub record Holds (p : Place) (u : ℕ) : Type 0 where
  pub from : p.sad ≤ u
  pub below : u < p.end

pub record PassesAll (ps : List Place) : Type 0 where
  pub scids : (i j : ℕ) → i < j → j < length ps → (get_or ps i no_place).scid ≡ (get_or ps j no_place).scid → ⊥
  pub sized : (i : ℕ) → i < length ps → 0 < (get_or ps i no_place).stl → (get_or ps i no_place).sad < (get_or ps i no_place).end
  pub within : (i u : ℕ) → i < length ps → Holds (get_or ps i no_place) u → u ≤ 863
  pub apart : (i j u : ℕ) → i < j → j < length ps → Holds (get_or ps i no_place) u → Holds (get_or ps j no_place) u → ⊥

pub record Passes (f : List ℕ) : Type 0 where
  pub accepted : refusal_of f ≡ 0
  pub all : PassesAll (places_of f)

-- ---- a condition holds of some stream; of some two
pub record HoldsOfOne (t : Place → Bool) (ps : List Place) : Type 0 where
  pub at : ℕ
  pub within : at < length ps
  pub holds : t (get_or ps at no_place) ≡ true

pub record HoldsOfTwo (t : Place → Place → Bool) (ps : List Place) : Type 0 where
  pub one : ℕ
  pub other : ℕ
  pub later : one < other
  pub within : other < length ps
  pub holds : t (get_or ps one no_place) (get_or ps other no_place) ≡ true
