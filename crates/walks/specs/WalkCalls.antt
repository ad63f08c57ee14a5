-- The walk from C: what begins one, what a step leaves in its 23 bytes, and calls one after another.
-- Assumes nothing.
use Rattle.std.specs.Prelude.{List, [], ◌∷◌, ◌++◌, ◌≡◌, ℕ, eqb, ltb, length, get_or, replicate}
use Rattle.octets.specs.Choice.{pick}
use Rattle.frame.specs.Rules.{◌when◌, first}
use Rattle.walk.specs.declared.Step.{Step}
use Rattle.walk.specs.Records.{allowed, limit_refusal_of, step_at}
use Rattle.controller.specs.Boundary.{lent_refusal, Told}
use Rattle.block.specs.WalkBytes.{step_bytes, state_in}

-- the bytes that a step leaves, and a walk's bytes w after a step over a record
abbrev pub left_by : Step → List ℕ
left_by r = step_bytes r.item r.walk

abbrev pub walk_of : List ℕ → List ℕ → List ℕ
walk_of bytes w = left_by (step_at bytes (state_in w))

-- a walk begun with limit m: all zero but the limit
unfoldable pub begun_bytes : ℕ → List ℕ
begun_bytes m = replicate 10 0 ++ (m ∷ replicate 12 0)

-- the lock is one bit: above 1 it is a value wider than its field
unfoldable pub state_refusal_of : List ℕ → ℕ
state_refusal_of w = first ((12 when ltb 1 (get_or w 9 0)) ∷ [])

-- `Told` of an export that takes a limit: 27 comes first
pub record Limited (m n : ℕ) (bytes was left : List ℕ) (r : ℕ) : Type 0 where
  pub number : r ≡ pick (allowed m) (lent_refusal n (length was) 0) (limit_refusal_of m)
  pub answer : left ≡ pick (eqb r 0) bytes was

-- ---- a walk from C: the bytes that calls of the step leave, one after another; each call is lent the bytes that the call before it left
pub data Called (bytes : List ℕ) : List ℕ → List (List ℕ) → Type 0 where
  none : {w : List ℕ} → Called bytes w []
  more : {w left : List ℕ} {r : ℕ} {ws : List (List ℕ)} → Told 23 (state_refusal_of w) (walk_of bytes w) w left r → Called bytes left ws → Called bytes w (left ∷ ws)
