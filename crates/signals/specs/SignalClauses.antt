-- Nothing in this file need be believed: clauses between private functions.
-- Assumes nothing.
use Rattle.std.specs.Prelude.{List, ◌≡◌, ℕ}
use Rattle.signalling.specs.declared.State.{State}
use Rattle.signalling.specs.declared.Item.{Item}
use Rattle.signals.specs.SignalBytes.{signal_bytes, state_at, item_at, Accepted}

-- what a step leaves in the state's bytes
pub record Left (x : Item) (s : State) (w : List ℕ) : Type 0 where
  pub bytes : w ≡ signal_bytes x s
  pub state : state_at w ≡ s
  pub item : item_at w ≡ x
  pub next : Accepted w
