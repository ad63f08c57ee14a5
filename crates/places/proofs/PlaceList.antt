-- The places of a frame's streams, one more at a time.
-- Assumes nothing.
use mathlib.Core.List.{List, [], ◌∷◌, ◌++◌}
use mathlib.Core.Logic.{⊎_elim}
use mathlib.Core.Path.{◌≡◌, refl, ap, ◌∙◌}
use Prim.Native.Nat.{ℕ, zero, suc, ◌+◌, ◌<◌}
use native.Mathlib.Nat.{eq-or-lt_of_le, le_of_suc-le-suc}
use native.Mathlib.Numerals.{add-one}
use native.Mathlib.Omega.{arith}
use lib.ListN.{length, get_or, length-append, get_or-append}
use lib.Seq.{get_or_at}
use Rattle.frame.specs.Frame.{stream_of}
use Rattle.places.specs.Places.{place_of, no_place, places_to}

pub places_more : (f : List ℕ) (n : ℕ) → places_to f (n + 1) ≡ places_to f n ++ (place_of (stream_of f n) ∷ [])
unfolding places_to
places_more f n = ap (places_to f) (add-one n)

pub places_length : (f : List ℕ) (n : ℕ) → length (places_to f n) ≡ n
unfolding places_to
places_length f zero = refl
places_length f (suc n) = rw (length-append, places_length f n) (add-one n)

pub places_at : (f : List ℕ) (i n : ℕ) → i < n → get_or (places_to f n) i no_place ≡ place_of (stream_of f i)
unfolding places_to
places_at f i zero h = absurd (omega arith)
places_at f i (suc n) h =
    ⊎_elim
    (λ (e : i ≡ n). rw e (get_or_at (places_to f n) (place_of (stream_of f n)) [] no_place n (places_length f n)))
    (λ (l : i < n). get_or-append (places_to f n) (place_of (stream_of f n) ∷ []) no_place i (omega (arith, places_length f n)) ∙ places_at f i n l)
    (eq-or-lt_of_le (le_of_suc-le-suc h))
