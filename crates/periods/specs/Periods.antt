-- The period at a place of a record.
-- Assumes nothing.
use Rattle.std.specs.Prelude.{Bool, List, ◌≡◌, ℕ, ◌+◌, ◌≤◌, ◌<◌, length, take, drop}
use Rattle.frame.specs.Frame.{is_fsync1}
use Rattle.frame.specs.Rules.{refusal_of}

-- "the reading gets that part of the record itself"
abbrev pub part : List ℕ → ℕ → List ℕ
part bytes p = take 6144 (drop p bytes)

-- the sync word at a place is FSYNC1
abbrev pub fsync1_at : List ℕ → ℕ → Bool
fsync1_at bytes p = is_fsync1 (part bytes p)

-- no place from a up to b stands: each has its period, and that is refused
pub record NoneStands (bytes : List ℕ) (a b : ℕ) : Type 0 where
  pub ahead : a ≤ b
  pub room : (p : ℕ) → a ≤ p → p < b → p + 6144 ≤ length bytes
  pub refused : (p : ℕ) → a ≤ p → p < b → refusal_of (part bytes p) ≡ 0 → ⊥
