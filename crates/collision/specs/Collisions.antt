-- Which streams the profile's number is about: the first one or the first two, in table order.
-- Assumes nothing.
use Rattle.std.specs.Prelude.{Bool, true, false, List, Result, Ok, Err, ◌≡◌, ℕ, zero, suc, ◌+◌, ◌-◌, ◌<◌, eqb, ltb}
use Rattle.octets.specs.Choice.{pick}
use Rattle.frame.specs.Frame.{nst_of, stream_of}
use Rattle.places.specs.declared.Place.{Place}
use Rattle.places.specs.Places.{place_of, same_scid, unsized, beyond, meets, profile_of}
use Rattle.refusals.specs.Refusals.{refusal_number}
use Rattle.collision.specs.declared.Collision.{Collision}
use Rattle.collision.specs.declared.Two.{Two}

abbrev pub place_at : List ℕ → ℕ → Place
place_at f i = place_of (stream_of f i)

-- of the k numbers from i on the first of which t holds, and i + k where it holds of none
unfoldable pub seek : (ℕ → Bool) → ℕ → ℕ → ℕ
seek t zero i = i
seek t (suc k) i = pick (t i) i (seek t k (i + 1))

-- of the streams from a up to n the first of which t holds, n where there is none
abbrev pub seek_to : (ℕ → Bool) → ℕ → ℕ → ℕ
seek_to t a n = seek t (n - a) a

-- the first stream of which t holds, of the first n
unfoldable pub one_to : (Place → Bool) → List ℕ → ℕ → ℕ
one_to t f n = seek_to (λ (i : ℕ). t (place_at f i)) 0 n

-- the first stream behind stream i that makes t hold of the two
unfoldable pub later_to : (Place → Place → Bool) → List ℕ → ℕ → ℕ → ℕ
later_to t f n i = seek_to (λ (j : ℕ). t (place_at f i) (place_at f j)) (i + 1) n

-- the first stream that has such a one behind it
unfoldable pub earlier_to : (Place → Place → Bool) → List ℕ → ℕ → ℕ
earlier_to t f n = seek_to (λ (i : ℕ). ltb (later_to t f n i) n) 0 n

-- one stream, twice; two streams
abbrev pub alone_to : (Place → Bool) → List ℕ → ℕ → Two
alone_to t f n = record { first = one_to t f n; second = one_to t f n }

unfoldable pub pair_to : (Place → Place → Bool) → List ℕ → ℕ → Two
pair_to t f n =
    record { first = earlier_to t f n; second = pick (ltb (earlier_to t f n) n) (later_to t f n (earlier_to t f n)) n }

-- by the number: 30 and 33 are about two streams, 31 and 32 about one
unfoldable pub two_by : ℕ → List ℕ → ℕ → Two
two_by number f n =
    pick (eqb number 30) (pair_to same_scid f n)
    (pick (eqb number 31) (alone_to unsized f n)
    (pick (eqb number 32) (alone_to beyond f n) (pick (eqb number 33) (pair_to meets f n) (record { first = 0; second = 0 }))))

abbrev pub two_of : List ℕ → Two
two_of f = two_by (profile_of f) f (nst_of f)

-- the number and the streams of an outcome: 0, and 0 and 0, where nothing is refused
abbrev pub number_in : {A : Type 0} → Result A Collision → ℕ
number_in (Ok x) = 0
number_in (Err c) = refusal_number c.refusal

abbrev pub two_in : {A : Type 0} → Result A Collision → Two
two_in (Ok x) = record { first = 0; second = 0 }
two_in (Err c) = c.two

pub record FindsStreams {A : Type 0} (f : List ℕ) (r : Result A Collision) : Type 0 where
  pub number : number_in r ≡ profile_of f
  pub two : two_in r ≡ two_of f

-- ---- the meaning, apart from the way it is worked out
-- t holds of stream i, and of none before it
pub record FirstOne (t : Place → Bool) (f : List ℕ) (i : ℕ) : Type 0 where
  pub within : i < nst_of f
  pub holds : t (place_at f i) ≡ true
  pub none_before : (k : ℕ) → k < i → t (place_at f k) ≡ false

-- t holds of streams i and j; of no stream before i with one behind it; of i with none between the two
pub record FirstTwo (t : Place → Place → Bool) (f : List ℕ) (i j : ℕ) : Type 0 where
  pub later : i < j
  pub within : j < nst_of f
  pub holds : t (place_at f i) (place_at f j) ≡ true
  pub none_before : (a b : ℕ) → a < i → a < b → b < nst_of f → t (place_at f a) (place_at f b) ≡ false
  pub none_between : (b : ℕ) → i < b → b < j → t (place_at f i) (place_at f b) ≡ false
