-- T-03: the way back's answer. No byte is judged.
-- Assumes nothing.
use Rattle.std.specs.Prelude.{Bool, List, ◌≡◌, ℕ, eqb, length}
use Rattle.octets.specs.Choice.{pick}
use Rattle.array.specs.CodingArray.{width_of, carried, Parts}
use Rattle.array.specs.OutputArray.{parts_of}
use Rattle.array.specs.PartLengths.{refusal_beside}

-- 1 for a part of the wrong length, information included
unfoldable pub back_refusal : ℕ → List ℕ → Parts → ℕ
back_refusal w output p = pick (eqb (refusal_beside w p output) 0) (pick (eqb (length p.information) (carried w)) 0 1) 1

-- the number, and what is lent for the parts: the parts of the output array, or as it was
pub record Returns (fourteen : Bool) (output : List ℕ) (before after : Parts) (n : ℕ) : Type 0 where
  pub number : n ≡ back_refusal (width_of fourteen) output before
  pub parts : after ≡ pick (eqb n 0) (parts_of (width_of fourteen) output) before
