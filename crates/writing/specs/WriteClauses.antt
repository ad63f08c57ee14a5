-- Nothing in this file need be believed: clauses between private functions.
-- Assumes nothing.
use Rattle.std.specs.Prelude.{◌≡◌, ℕ, ◌+◌, ◌*◌, ◌≤◌}
use Rattle.frame.specs.declared.Fields.{Fields}
use Rattle.frame.specs.Frame.{stl_total}
use Rattle.frame.specs.Writing.{ficl_in, fl_in, entries_of}

-- what a writing that is not refused has shown, with the lengths of main stream and output
pub record Ready (x : Fields) (m o : ℕ) : Type 0 where
  pub count : x.count ≤ 64
  pub room : fl_in x ≤ 1532
  pub main : m ≡ 4 * ficl_in x + 8 * stl_total (entries_of x)
  pub out : o ≡ 6144
