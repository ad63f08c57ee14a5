-- The frame beside an item that a step hands out is the whole period of the record at the item's place.
-- Assumes nothing.
use mathlib.Core.List.{List}
use Prim.Native.Nat.{ℕ}
use native.Mathlib.Omega.{arith}
use Rattle.walk.specs.declared.Item.{Item}
use Rattle.walk.specs.declared.Item.TheVariants.{Frame, Lost, Idle, Done}
use Rattle.walk.specs.declared.State.{State}
use Rattle.walk.specs.Records.{step_at}
use Rattle.walk.specs.Truth.{ItemTrue}
use Rattle.walk.proofs.Truth.{step_true}
use Rattle.walker.specs.Advance.{frame_part, FrameWhole}
use Rattle.walker.proofs.Periods.{period_within}

pub frame_whole : (bytes : List ℕ) (s : State) → FrameWhole bytes (step_at bytes s).item
unfolding frame_part
frame_whole bytes s = go (step_at bytes s).item (step_at bytes s).walk (step_true bytes s)
  where
    go : (x : Item) (t : State) → ItemTrue bytes s x t → FrameWhole bytes x
    go (Frame p h) t f = (period_within bytes p (omega (arith, f.fits)), f.acceptable.whole)
    go (Lost p n) t f = tt
    go (Idle p) t f = tt
    go (Done p) t f = tt
