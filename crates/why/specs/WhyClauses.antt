-- Nothing in this file need be believed: clauses between private functions.
-- Assumes nothing.
use Rattle.std.specs.Prelude.{true, List, ◌⊎◌, ◌≡◌, ℕ, ◌+◌, ◌≤◌, ◌<◌, length}
use Rattle.octets.specs.Choice.{pick}
use Rattle.walk.specs.declared.Item.{Item}
use Rattle.walk.specs.declared.Item.TheVariants.{Frame, Lost as LostMark, Idle, Done}
use Rattle.walk.specs.declared.State.{State}
use Rattle.walk.specs.Walk.{Judged, begin}
use Rattle.walk.specs.Records.{allowed}
use Rattle.why.specs.declared.Reason.{Reason}
use Rattle.why.specs.declared.Reason.TheVariants.{HandedOut, Lost, Refused, NotStanding, SameSync, SteppedOver}
use Rattle.why.specs.declared.Found.{Found}
use Rattle.why.specs.declared.Found.TheVariants.{Hunted, At, Later}
use Rattle.why.specs.Why.{followed}

-- the reason for a place that was hunted over
unfoldable pub hunted_for : Judged → ℕ → Reason
hunted_for R p = pick (R.stands p) (pick (followed R p) SameSync NotStanding) (Refused (R.refusal p))

-- what an item at q, with the reason for its own place, says of p, the walk going on to next
unfoldable pub SaysAt : ℕ → Reason → ℕ → ℕ → Found → Type 0
SaysAt q here next p Hunted = p < q
SaysAt q here next p (At r) = ((p ≡ q) × (r ≡ here)) ⊎ ((q < p) × (p < next) × (r ≡ SteppedOver q))
SaysAt q here next p Later = (q < p) × (next ≤ p)

unfoldable pub Says : Item → ℕ → ℕ → Found → Type 0
Says (Frame q h) next p f = SaysAt q HandedOut next p f
Says (LostMark q n) next p f = SaysAt q (Lost n) next p f
Says (Idle q) next p f = SaysAt q HandedOut next p f
Says (Done q) next p f = f ≡ Hunted

-- a walk at its beginning, with an allowed limit, and a place that has its period
pub record Asked (bytes : List ℕ) (s : State) (p : ℕ) : Type 0 where
  pub patient : allowed s.limit ≡ true
  pub begins : s.position ≡ begin
  pub room : p + 6144 ≤ length bytes
