-- T-03: the way out's answer, for information bytes and the parts beside them.
-- Assumes nothing.
use Rattle.std.specs.Prelude.{Bool, List, ◌≡◌, ℕ, eqb, ltb, length}
use Rattle.octets.specs.Choice.{pick}
use Rattle.array.specs.CodingArray.{width_of, carried, Parts}
use Rattle.array.specs.OutputArray.{output_of}
use Rattle.array.specs.PartLengths.{refusal_beside}

-- 1 for a part of the wrong length, then 23 for more information than the variant carries
unfoldable pub out_refusal : ℕ → Parts → List ℕ → ℕ
out_refusal w p output =
    pick (eqb (refusal_beside w p output) 0) (pick (ltb (carried w) (length p.information)) 23 0) 1

-- the number, and the output: the output array of these parts, or as it was
pub record Sends (fourteen : Bool) (p : Parts) (before after : List ℕ) (n : ℕ) : Type 0 where
  pub number : n ≡ out_refusal (width_of fourteen) p before
  pub bytes : after ≡ pick (eqb n 0) (output_of (width_of fourteen) p) before
