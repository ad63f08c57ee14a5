-- T-01: when the tag items of a packet are refused, before writing's own rules.
-- Assumes nothing.
use Rattle.std.specs.Prelude.{Bool, not, ◌&&◌, List, [], ◌∷◌, ◌≡◌, ℕ, eqb, ltb, length, Result, IfOk}
use Rattle.refusals.specs.declared.Refusal.{Refusal}
use Rattle.refusals.specs.Refusals.{outcome_number}
use Rattle.frame.specs.Rules.{Rule, ◌when◌, first}
use Rattle.items.specs.TagItems.{Item, items_of, some_bad, values_of, value_of, highest_in, each_once}
use Rattle.items.specs.declared.Notes.{Notes}
use Rattle.items.specs.PassNotes.{Placed}
use Rattle.tags.specs.TagValues.{length_for, level_in}

-- there is one management item, and it has the length that it calls for
unfoldable pub is_managed : List Item → Bool
is_managed is = eqb (length (values_of 0 is)) 1 && eqb (length (value_of 0 is)) (length_for (value_of 0 is))

abbrev pub item_rules_of : List Item → List Rule
item_rules_of is =
    (20 when some_bad is)
    ∷ (21 when not (is_managed is))
    ∷ (22 when not (each_once is (highest_in is)))
    ∷ (35 when ltb 3 (level_in (value_of 0 is)))
    ∷ []

-- sorting the packet p answers r: the rules' number, and, where that is 0, the places of its values and the highest stream number
pub record Sorts (p : List ℕ) (r : Result Notes Refusal) : Type 0 where
  pub number : outcome_number r ≡ first (item_rules_of (items_of p))
  pub placed : IfOk r (λ n. Placed p (items_of p) n.met)
  pub high : IfOk r (λ n. n.highest ≡ highest_in (items_of p))
