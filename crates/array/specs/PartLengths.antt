-- T-03: the lengths of the lent parts, and the refusal 1 where one of them is another.
-- Assumes nothing.
use Rattle.std.specs.Prelude.{List, [], ◌∷◌, ◌≡◌, ℕ, ◌-◌, ◌*◌, ◌≤◌, eqb, length}
use Rattle.octets.specs.Choice.{pick}
use Rattle.array.specs.CodingArray.{Parts, carried}

-- 0 where each length is the one wanted, else 1
abbrev pub length_refusal : List ℕ → List ℕ → ℕ
length_refusal [] [] = 0
length_refusal [] (w ∷ ws) = 1
length_refusal (n ∷ ns) [] = 1
length_refusal (n ∷ ns) (w ∷ ws) = pick (eqb n w) (length_refusal ns ws) 1

-- of the output array and of the parts beside the information: 24, 24, 192, 192, and 24 rows of check bytes
unfoldable pub parts_refusal : ℕ → ℕ → ℕ → ℕ → ℕ → ℕ → ℕ → ℕ
parts_refusal w output management supervision synchronising signalling check =
    length_refusal (output ∷ management ∷ supervision ∷ synchronising ∷ signalling ∷ check ∷ []) (6144 ∷ 24 ∷ 24 ∷ 192 ∷ 192 ∷ 24 * (240 - w) ∷ [])

-- the same for parts and an output array, as bytes
abbrev pub refusal_beside : ℕ → Parts → List ℕ → ℕ
refusal_beside w p output =
    parts_refusal w (length output) (length p.management) (length p.supervision) (length p.synchronising) (length p.signalling) (length p.check)

-- the parts have the lengths of the variant; of information there may be less than it carries
pub record Sized (w : ℕ) (p : Parts) : Type 0 where
  pub information : length p.information ≤ carried w
  pub management : length p.management ≡ 24
  pub supervision : length p.supervision ≡ 24
  pub synchronising : length p.synchronising ≡ 192
  pub signalling : length p.signalling ≡ 192
  pub check : length p.check ≡ 24 * (240 - w)
