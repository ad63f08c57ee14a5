-- T-01: what reading gives back of a regenerated frame.
-- Assumes nothing.
use Rattle.std.specs.Prelude.{Bool, List, [], ◌∷◌, ◌++◌, ◌≡◌, ℕ, ◌+◌, ◌<◌, drop}
use Rattle.sum.specs.Sum.{sum_of}
use Rattle.frame.specs.declared.Reading.{Reading}
use Rattle.frame.specs.Frame.{fl_by, stl_total, cut}
use Rattle.frame.specs.Rules.{fic_part, stream_part}
use Rattle.frame.specs.Answers.{digit, timestamp_values, number_of, table_by}
use Rattle.items.specs.TagItems.{Item, value_of, highest_in}
use Rattle.tags.specs.TagValues.{level_in, fct_in, ficf_in, fp_in, mid_in, mnsc_in, rfu_in, rfa_in, timestamp_in, ficl_in, fic_in}
use Rattle.edi.specs.Regenerating.{entries_to, main_for}

-- the items' values in the order of reading's: level, sync word, FCT, FICF, NST, FP, MID, FL by the formula, MNSC, Rfu, Rfa, timestamp
unfoldable pub values_for : List Item → Bool → List ℕ
values_for is fsync1 =
    let m = value_of 0 is in
    level_in m
    ∷ digit fsync1
    ∷ fct_in m
    ∷ ficf_in m
    ∷ highest_in is
    ∷ fp_in m
    ∷ mid_in m
    ∷ fl_by (highest_in is) (ficl_in m) (stl_total (entries_to is (highest_in is)))
    ∷ mnsc_in m
    ∷ rfu_in m
    ∷ rfa_in m
    ∷ timestamp_values (timestamp_in m)

-- r is the reading of the frame f, made from the items: accepted, with their values, the main-stream sum sent and worked out being one; their entries; and their bytes as FIC and streams
pub record FromItems (is : List Item) (fsync1 : Bool) (f : List ℕ) (r : Reading) : Type 0 where
  pub number : number_of r.answer ≡ 0
  pub values : Rattle.frame.specs.Answers.values_of r.answer ≡ values_for is fsync1 ++ (sum_of (main_for is) ∷ sum_of (main_for is) ∷ [])
  pub table : r.table ≡ table_by (entries_to is (highest_in is))
  pub fic : cut f (fic_part f) ≡ fic_in (value_of 0 is)
  pub stream : (k : ℕ) → k < highest_in is → cut f (stream_part f k) ≡ drop 3 (value_of (k + 1) is)
