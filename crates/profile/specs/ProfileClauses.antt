-- What the private functions of the profile say. Nothing here need be believed.
-- Assumes nothing.
use Rattle.std.specs.Prelude.{Bool, false, ◌&&◌, List, [], ◌∷◌, ◌++◌, ◌≡◌, ℕ, zero, suc, ◌+◌, ◌*◌, ◌/◌, ◌%◌, ◌≤◌, ◌<◌, eqb, ltb, leb, get_or, sum_by}
use Rattle.octets.specs.Choice.{pick}
use Rattle.octets.specs.Words.{two_at}
use Rattle.capacity.specs.Sizes.{units_in}
use Rattle.places.specs.declared.Place.{Place}
use Rattle.places.specs.Places.{some, some_pair, same_scid, unsized, beyond, meets}
use Rattle.profile.specs.declared.Notes.{Notes}

-- ---- a table of 64 numbers of two bytes, by g
pub record Table (g : ℕ → ℕ) (t : List ℕ) : Type 0 where
  pub each : (k : ℕ) → k < 64 → get_or t k 0 ≡ g k
  pub bounded : (k : ℕ) → k < 64 → g k < 65536

-- the halves of the streams' words
pub record Halved (f highs lows : List ℕ) : Type 0 where
  pub above : Table (λ (k : ℕ). two_at f (8 + 4 * k)) highs
  pub below : Table (λ (k : ℕ). two_at f (10 + 4 * k)) lows

-- the stream whose word has these halves
abbrev pub place_by : ℕ → ℕ → Place
place_by high low = record { scid = high / 1024 % 64; sad = high % 1024; end = high % 1024 + units_in low; stl = low % 1024 }

-- the first n streams of two tables of halves
unfoldable pub laid_to : List ℕ → List ℕ → ℕ → List Place
laid_to highs lows zero = []
laid_to highs lows (suc n) = laid_to highs lows n ++ (place_by (get_or highs n 0) (get_or lows n 0) ∷ [])

-- where so many units from SAD on end, 0 for none; where a stream's units do
unfoldable pub end_by : ℕ → ℕ → ℕ
end_by sad units = pick (eqb units 0) 0 (sad + units)

unfoldable pub end_at : Place → ℕ
end_at p = pick (ltb p.sad p.end) p.end 0

-- the ends of the first n streams, by the size of a half
abbrev pub EndsBy : (ℕ → ℕ) → List ℕ → List ℕ → List ℕ → ℕ → Type 0
EndsBy size highs lows t n = (k : ℕ) → k < n → get_or t k 0 ≡ end_by (get_or highs k 0 % 1024) (size (get_or lows k 0))

-- ---- marks of SCIDs: there are as many as streams unless two have the same
abbrev pub total : List Bool → ℕ
total marks = sum_by (λ (b : Bool). pick b 1 0) marks

pub record Tallied (marks : List Bool) (n : ℕ) (ps : List Place) : Type 0 where
  pub marks_of : (k : ℕ) → k < 64 → get_or marks k false ≡ some (λ (q : Place). eqb q.scid k) ps
  pub at_most : total marks ≤ n
  pub fewer : ltb (total marks) n ≡ some_pair same_scid ps

-- ---- the stream has units, and they do not end at m or before it
unfoldable pub past : ℕ → Place → Bool
past m p = ltb p.sad p.end && ltb m p.end

-- the stream has units, and they do not begin at m or behind it
unfoldable pub ahead : ℕ → Place → Bool
ahead m p = ltb p.sad p.end && ltb p.sad m

-- what the notes say of streams: as long as none is out of order no two have a unit together, and all end where the notes say
pub record Noted (ps : List Place) (r : Notes) : Type 0 where
  pub sizes : r.sizeless ≡ some unsized ps
  pub within : r.beyond ≡ some beyond ps
  pub apart : r.crossed ≡ false → (some_pair meets ps ≡ false) × (some (past r.reach) ps ≡ false)

-- of any streams that were noted, one stream more
abbrev pub Adds : Notes → Place → Notes → Type 0
Adds notes p r = (ps : List Place) → Noted ps notes → Noted (ps ++ (p ∷ [])) r

-- unit u is one of the stream's
unfoldable pub takes : ℕ → Place → Bool
takes u p = leb p.sad u && ltb u p.end
