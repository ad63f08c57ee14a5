-- Nothing in this file need be believed: clauses between private functions.
-- Assumes nothing.
use Rattle.std.specs.Prelude.{true, List, [], ◌⊎◌, ◌≡◌, ℕ, ◌+◌, ◌≤◌, ◌<◌, length}
use Rattle.frame.specs.Rules.{refusal_of}
use Rattle.refusals.specs.declared.Refusal.{Refusal}
use Rattle.refusals.specs.Refusals.{refusal_number}
use Rattle.frame.specs.Answers.{table_by}
use Rattle.walk.specs.declared.Item.{Item}
use Rattle.walk.specs.declared.Moved.{Moved}
use Rattle.walk.specs.declared.Position.{Position}
use Rattle.walk.specs.Walk.{step_of}
use Rattle.walk.specs.Records.{part, judged, table_of}

-- in lock at p after k misses, with fewer than the limit, the place is refused with n, and is no null transmission
pub record Missed (limit : ℕ) (bytes : List ℕ) (p k : ℕ) (n : Refusal) : Type 0 where
  pub room : p + 6144 ≤ length bytes
  pub few : k < limit
  pub number : refusal_number n ≡ refusal_of (part bytes p)
  pub carrying : refusal_number n ≡ 4 → ⊥

-- no period exists from the position on, or it is in lock with its misses spent
abbrev pub Spent : ℕ → List ℕ → Position → Type 0
Spent limit bytes p = (length bytes < p.place + 6144) ⊎ ((p.lock ≡ true) × (limit ≤ p.misses))

-- an item that is no frame, with no table
abbrev pub bare : Item → Position → Moved
bare x p = record { item = x; table = table_by []; position = p }

-- what a step with an allowed limit hands back, but for the limit
unfoldable pub moved_with : List ℕ → Item → Position → Moved
moved_with bytes x p = record { item = x; table = table_of bytes x; position = p }

unfoldable pub moved_at : ℕ → List ℕ → Position → Moved
moved_at limit bytes p = moved_with bytes (step_of (judged limit bytes) p).item (step_of (judged limit bytes) p).walk
