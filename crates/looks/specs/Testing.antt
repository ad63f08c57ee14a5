-- How many times a walk puts the acceptance test to a place, over the list of its looks, by which its items and steps are defined.
-- Assumes nothing.
use Rattle.std.specs.Prelude.{ℕ, ◌+◌, true, false, ◌&&◌, List, [], ◌∷◌, ◌≡◌, Result, Ok, Err}
use Rattle.refusals.specs.declared.Refusal.{Refusal}
use Rattle.refusals.specs.declared.Refusal.TheVariants.{Length}
use Rattle.refusals.specs.Refusals.{outcome_number}
use Rattle.octets.specs.Choice.{pick}
use Rattle.frame.specs.declared.Header.{Header}
use Rattle.walk.specs.declared.Position.{Position}
use Rattle.walk.specs.Walk.{Judged, fits, looks, begin}
use Rattle.walk.specs.Records.{judged, allowed, limit_refusal_of}

-- of one look: in lock one; hunting one, and one more for the confirming place, where the first stands and the bytes of the second exist
unfoldable pub tests_at : Judged → Position → ℕ
tests_at R s = pick s.lock 1 (pick (R.stands s.place && fits R (s.place + R.period)) 2 1)

unfoldable pub tests_in : Judged → List Position → ℕ
tests_in R [] = 0
tests_in R (s ∷ l) = tests_at R s + tests_in R l

-- of the walk from s on
unfoldable pub tests_from : Judged → Position → ℕ
tests_from R s = tests_in R (looks R s)

-- of the walk over a record, with limit m
unfoldable pub tests_of : ℕ → List ℕ → ℕ
tests_of m bytes = tests_from (judged m bytes) begin

-- an answer's values: the number of tests, none for refused
abbrev pub counted_values : Result ℕ Refusal → List ℕ
counted_values (Ok n) = n ∷ []
counted_values (Err n) = []

-- the answer r: 27 for a limit outside 1 to 8, otherwise the count
pub record CountsTests (m : ℕ) (bytes : List ℕ) (r : Result ℕ Refusal) : Type 0 where
  pub number : outcome_number r ≡ limit_refusal_of m
  pub values : counted_values r ≡ pick (allowed m) (tests_of m bytes ∷ []) []

-- judged places of which each stands, all with one sync word, so that none is ever confirmed: the most tests that any judging can ask for
unfoldable pub all_alike : ℕ → ℕ → (ℕ → Header) → Judged
all_alike len limit header =
    record {
      len = len;
      period = 6144;
      limit = limit;
      stands = λ p. true;
      null = λ p. false;
      sync = λ p. false;
      header = header;
      refusal = λ p. Length;
    }
