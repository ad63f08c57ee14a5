-- Document 002, annex A.2: the frame that a packet's items call for, and when there is none.
-- Assumes nothing.
use Rattle.std.specs.Prelude.{Bool, List, [], ◌∷◌, ◌++◌, ◌≡◌, ℕ, zero, suc, eqb, length, drop}
use Rattle.octets.specs.Choice.{pick}
use Rattle.frame.specs.declared.Fields.{Fields}
use Rattle.frame.specs.declared.Stream.{Stream}
use Rattle.frame.specs.Rules.{first}
use Rattle.frame.specs.Answers.{table_by}
use Rattle.frame.specs.Writing.{writing_rules_of, frame_in}
use Rattle.items.specs.TagItems.{Item, items_of, value_of, highest_in}
use Rattle.tags.specs.TagValues.{fic_in, entry_in, fields_by}
use Rattle.sorting.specs.TagRules.{item_rules_of}

-- the entries and the data of the streams 1 to n, in the order of their numbers
unfoldable pub entries_to : List Item → ℕ → List Stream
entries_to is zero = []
entries_to is (suc n) = entries_to is n ++ (entry_in (value_of (suc n) is) ∷ [])

unfoldable pub data_to : List Item → ℕ → List ℕ
data_to is zero = []
data_to is (suc n) = data_to is n ++ drop 3 (value_of (suc n) is)

-- the fields and the main stream
unfoldable pub fields_for : List Item → Bool → Fields
fields_for is fsync1 = fields_by (value_of 0 is) fsync1 (highest_in is) (table_by (entries_to is (highest_in is)))

unfoldable pub main_for : List Item → List ℕ
main_for is = fic_in (value_of 0 is) ++ data_to is (highest_in is)

-- the items' own rules, then writing's
unfoldable pub regenerating_refusal_of : List Item → Bool → ℕ → ℕ
regenerating_refusal_of is fsync1 out =
    first (item_rules_of is ++ writing_rules_of (fields_for is fsync1) (length (main_for is)) out)

-- regenerating the packet p answers r and leaves `left` in the output that held `was`: the frame, or, refused, as it was
pub record Regenerates (p : List ℕ) (fsync1 : Bool) (was left : List ℕ) (r : ℕ) : Type 0 where
  pub number : r ≡ regenerating_refusal_of (items_of p) fsync1 (length was)
  pub output : left
      ≡ pick (eqb (regenerating_refusal_of (items_of p) fsync1 (length was)) 0) (frame_in (fields_for (items_of p) fsync1) (main_for (items_of p))) was
