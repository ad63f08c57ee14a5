-- Fields written, and the frame read back.
-- Assumes nothing.
use Rattle.std.specs.Prelude.{List, [], ◌∷◌, ◌≡◌, ℕ, ◌+◌, ◌*◌, ◌<◌, eqb, length, get_or, take, drop}
use Rattle.sum.specs.Sum.{sum_of}
use Rattle.octets.specs.Choice.{pick}
use Rattle.frame.specs.declared.Fields.{Fields}
use Rattle.frame.specs.declared.Reading.{Reading}
use Rattle.frame.specs.Frame.{stl_total, cut}
use Rattle.frame.specs.Rules.{main_part, fic_part, stream_part}
use Rattle.frame.specs.Answers.{number_of, returned_of, sums_of, no_stream, table_by}
use Rattle.frame.specs.Writing.{entries_of, ficl_in, values_in, writing_refusal_of, written_of}

-- the parts of the frame f are those of the main stream m: the FIC first, then each stream that x has an entry for, in order
pub record PartsBack (x : Fields) (m f : List ℕ) : Type 0 where
  pub main : cut f (main_part f) ≡ m
  pub fic : cut f (fic_part f) ≡ take (4 * ficl_in x) m
  pub stream : (i : ℕ) → i < x.count
      → cut f (stream_part f i) ≡ take (8 * (get_or (entries_of x) i no_stream).stl) (drop (4 * ficl_in x + 8 * stl_total (take i (entries_of x))) m)

-- x and m are written into an output that held `was` and holds `is`, and r is the reading of it: writing's refusal, or the fields, the entries and the main stream as they were given
pub record ReadsBack (x : Fields) (m was is : List ℕ) (r : Reading) : Type 0 where
  pub output : is ≡ written_of x m was
  pub number : number_of r.answer ≡ writing_refusal_of x (length m) (length was)
  pub values : returned_of r.answer ≡ pick (eqb (writing_refusal_of x (length m) (length was)) 0) (values_in x) []
  -- both sums are that of the main stream given
  pub sums : sums_of r.answer ≡ pick (eqb (writing_refusal_of x (length m) (length was)) 0) (sum_of m ∷ sum_of m ∷ []) []
  pub table : r.table ≡ pick (eqb (writing_refusal_of x (length m) (length was)) 0) (table_by (entries_of x)) (table_by [])
  pub parts : writing_refusal_of x (length m) (length was) ≡ 0 → PartsBack x m is
