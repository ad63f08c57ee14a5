-- Nothing in this file need be believed: clauses between private functions.
-- Assumes nothing.
use Rattle.std.specs.Prelude.{Bool, false, true, not, ◌||◌, List, [], ◌∷◌, ◌≡◌, ℕ, zero, suc, ◌<◌, eqb, ltb, length, get_or, take, drop}
use Rattle.frame.specs.Rules.{Rule, ◌when◌}
use Rattle.items.specs.declared.Met.{Met}
use Rattle.items.specs.declared.Met.TheVariants.{Never}
use Rattle.items.specs.TagItems.{Item, items_of, values_of, value_of}
use Rattle.items.specs.PassNotes.{span_of}

-- one of the streams 1 to n is of 1,024 words or more
unfoldable pub long_to : List Item → ℕ → Bool
long_to is zero = false
long_to is (suc n) = long_to is n || ltb 8194 (length (value_of (suc n) is))

abbrev pub over_rules : ℕ → List Rule
over_rules out = (1 when not (eqb out 6144)) ∷ (12 when true) ∷ []

-- the value of each item that stands once lies where its note says
abbrev pub ValuesAt : List ℕ → List Met → Type 0
ValuesAt p met =
    (k : ℕ) → k < 66 → length (values_of k (items_of p)) ≡ 1
    → take (span_of (get_or met k Never)).len (drop (span_of (get_or met k Never)).start p) ≡ value_of k (items_of p)
