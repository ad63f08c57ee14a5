-- The walk over a live line: what a step over a window of it tells.
-- Assumes nothing.
use Rattle.std.specs.Prelude.{Bool, true, false, not, ◌&&◌, List, [], ℕ, zero, suc, ◌+◌, ◌-◌, eqb, leb, length}
use Rattle.octets.specs.Choice.{pick}
use Rattle.frame.specs.Rules.{refusal_of}
use Rattle.frame.specs.Answers.{table_by}
use Rattle.walk.specs.declared.Item.{Item}
use Rattle.walk.specs.declared.Item.TheVariants.{Frame, Lost, Idle, Done}
use Rattle.walk.specs.declared.State.{State}
use Rattle.walk.specs.declared.Step.{Step}
use Rattle.walk.specs.Records.{part, allowed, within, step_at}
use Rattle.live.specs.declared.Told.TheVariants.{Got, More}
use Rattle.live.specs.declared.LiveStep.{LiveStep}

-- BY PLACES IN THE LINE: the window begins at the walk's place

abbrev pub placed_at : ℕ → State → State
placed_at p s = within s.limit (record { place = p; misses = s.position.misses; lock = s.position.lock })

-- the walk at the window's first byte
abbrev pub at_start : State → State
at_start s = placed_at 0 s

-- what is d bytes later
unfoldable pub later : ℕ → State → State
later d s = placed_at (d + s.position.place) s

unfoldable pub later_item : ℕ → Item → Item
later_item d (Frame p h) = Frame (d + p) h
later_item d (Lost p n) = Lost (d + p) n
later_item d (Idle p) = Idle (d + p)
later_item d (Done p) = Done (d + p)

unfoldable pub later_step : ℕ → Step → Step
later_step d r = record { item = later_item d r.item; table = r.table; walk = later d r.walk }

unfoldable pub is_done : Item → Bool
is_done (Frame p h) = false
is_done (Lost p n) = false
is_done (Idle p) = false
is_done (Done p) = true

-- WHERE MORE BYTES ARE WANTED

-- more bytes make a walk go on that is done: not if the line has ended, nor if the walk's limit is outside 1 to 8, nor in lock with its misses spent
unfoldable pub wants : Bool → ℕ → ℕ → Bool → Bool
wants more limit k lock = more && (allowed limit && not (lock && leb limit k))

-- of n places from p on the first that stands, or the place behind them
unfoldable pub standing_in : List ℕ → ℕ → ℕ → ℕ
standing_in w zero p = p
standing_in w (suc n) p = pick (eqb (refusal_of (part w p)) 0) p (standing_in w n (p + 1))

-- the first place from p on that stands, or the first from which no period is there
unfoldable pub standing : List ℕ → ℕ → ℕ
standing w p = standing_in w (suc (length w) - (p + 6144)) p

-- how many bytes of a window that shows no item may be forgotten: in lock none; hunting, with two periods there, all before the first place that may yet be confirmed.
-- From length - 12,287 on the period after a place is not all there; the first of these places that stands, or whose own period is not all there, is that place
unfoldable pub spare : List ℕ → Bool → ℕ
spare w lock = pick lock 0 (pick (leb 12288 (length w)) (standing w (length w - 12287)) 0)

-- WHAT IS TOLD

-- an item found
unfoldable pub telling : Step → LiveStep
telling r = record { told = Got r.item; table = r.table; walk = r.walk }

unfoldable pub telling_at : ℕ → Step → LiveStep
telling_at d r = telling (later_step d r)

-- that more bytes are wanted
unfoldable pub waiting : State → LiveStep
waiting s = record { told = More s.position.place; table = table_by []; walk = s }

unfoldable pub waiting_at : ℕ → State → LiveStep
waiting_at d s = waiting (later d s)

-- that the line is at its last place
unfoldable pub over_at : State → LiveStep
over_at s = record { told = Got (Done s.position.place); table = table_by []; walk = s }

abbrev pub far : ℕ
far = 9223372036854775808

-- THE STEP: the walk's own over the window taken as a record, but that its done is not told while more bytes may come that make it go on
unfoldable pub live_at : List ℕ → Bool → State → LiveStep
live_at w more s =
    let r = step_at w (at_start s) in
    pick (leb far (s.position.place + length w)) (over_at s)
    (pick (is_done r.item && wants more s.limit s.position.misses s.position.lock)
    (waiting_at (spare w s.position.lock) s)
    (telling_at s.position.place r))
