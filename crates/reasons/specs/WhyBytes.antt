-- The answer bytes of `spindlewren_why`, as docs/BOUNDARY.md lays them out.
-- Assumes nothing.
use Rattle.std.specs.Prelude.{not, List, [], ◌∷◌, ◌≡◌, ℕ, ◌+◌, eqb, ltb, length}
use Rattle.frame.specs.Rules.{◌when◌, first}
use Rattle.walk.specs.Records.{allowed}
use Rattle.encoded.specs.AnswerBytes.{encode}
use Rattle.why.specs.declared.Reason.{Reason}
use Rattle.why.specs.Why.{Applies, reason_values}

-- a reason's ten bytes: its number, the refusal number that it gives, and the place of the item before it
abbrev pub why_counts : List ℕ
why_counts = 1 ∷ 1 ∷ 8 ∷ []

unfoldable pub why_bytes : Reason → List ℕ
why_bytes x = encode why_counts (reason_values x)

-- 27 first, as wherever there is a limit; then 1 for answer bytes of another length; then 34
unfoldable pub why_lent_refusal : List ℕ → ℕ → ℕ → ℕ → ℕ
why_lent_refusal bytes limit place len =
    first ((27 when not (allowed limit)) ∷ (1 when not (eqb len 10)) ∷ (34 when ltb (length bytes) (place + 6144)) ∷ [])

-- the reason that applies is left in the answer bytes
pub record Given (bytes : List ℕ) (limit place : ℕ) (left : List ℕ) : Type 0 where
  pub reason : Reason
  pub applies : Applies bytes limit place reason
  pub answer : left ≡ why_bytes reason

-- the export answers r and leaves `left` in the answer bytes that held `was`: refused, what they held
pub record Asks (bytes : List ℕ) (limit place : ℕ) (was left : List ℕ) (r : ℕ) : Type 0 where
  pub number : r ≡ why_lent_refusal bytes limit place (length was)
  pub given : r ≡ 0 → Given bytes limit place left
  pub refused : (r ≡ 0 → ⊥) → left ≡ was
