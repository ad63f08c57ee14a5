-- Nothing in this file need be believed: clauses between private functions.
-- Assumes nothing.
use Rattle.std.specs.Prelude.{List, ◌≡◌, ℕ}
use Rattle.signalling.specs.declared.Kind.{Kind}
use Rattle.signalling.specs.declared.Opened.{Opened}
use Rattle.signalling.specs.declared.State.{State}
use Rattle.signalling.specs.declared.Taken.{Taken}
use Rattle.signalling.specs.declared.Step.{Step}
use Rattle.signalling.specs.OnNumbers.{taken_by, buffer_by, step_by, step_buffer}

-- a whole group g of kind k is taken
pub record Taking (k : Kind) (m : Opened) (g l : List ℕ) (r : Taken) (after : List ℕ) : Type 0 where
  pub taken : r ≡ taken_by k m g
  pub buffer : after ≡ buffer_by k m g l

-- a step with a buffer that is long enough
pub record Stepping (s : State) (fp mnsc : ℕ) (l : List ℕ) (r : Step) (after : List ℕ) : Type 0 where
  pub step : r ≡ step_by s fp mnsc
  pub buffer : after ≡ step_buffer s fp mnsc l
