-- A run over a live line: what the calls of live's step hand out while bytes come in pieces.
-- Assumes nothing.
use Rattle.std.specs.Prelude.{Bool, true, false, List, [], ◌∷◌, ◌++◌, map, ◌⊎◌, ◌≡◌, ℕ, ◌+◌, length, drop, replicate}
use Rattle.octets.specs.Choice.{pick}
use Rattle.frame.specs.declared.Stream.{Stream}
use Rattle.walk.specs.declared.State.{State}
use Rattle.walk.specs.Records.{start, step_at, calls_at, state_after}
use Rattle.walk.specs.Demand3.{Out, out_of, done_out}
use Rattle.live.specs.declared.LiveStep.{LiveStep}
use Rattle.live.specs.declared.Told.{Told}
use Rattle.live.specs.declared.Told.TheVariants.{Got, More}
use Rattle.live.specs.Live.{is_done, telling, waiting, live_at}

-- what a call hands out: an item with its table; nothing where more bytes are wanted, and nothing where it says done
unfoldable pub handed_by : Told → List Stream → List Out
handed_by (Got x) t = pick (is_done x) [] (record { item = x; table = t } ∷ [])
handed_by (More p) t = []

abbrev pub handed : LiveStep → List Out
handed r = handed_by r.told r.table

-- the window of a walk, of all the bytes that have come
abbrev pub window : List ℕ → State → List ℕ
window came s = drop s.position.place came

-- the call over it
abbrev pub called : List ℕ → Bool → State → LiveStep
called came more s = live_at (window came s) more s

-- A RUN with limit m: `came` are all the bytes that have come, s is the walk, xs is what was handed out. Pieces of any length come and calls are made, in any order, and at some time the line may end.
pub data Run (m : ℕ) : Bool → List ℕ → State → List Out → Type 0 where
  starts : Run m true [] (start m) []
  comes : {came : List ℕ} {s : State} {xs : List Out} → Run m true came s xs → (piece : List ℕ) → Run m true (came ++ piece) s xs
  ends : {came : List ℕ} {s : State} {xs : List Out} → Run m true came s xs → Run m false came s xs
  steps : {more : Bool} {came : List ℕ} {s : State} {xs : List Out} → Run m more came s xs → Run m more came (called came more s).walk (xs ++ handed (called came more s))

-- so many bytes a call needs to go further: two periods hunting, one in lock
unfoldable pub needed : Bool → ℕ
needed true = 6144
needed false = 12288

-- A STEP IS RIGHT over the whole line v: it tells what the walk's step over v hands back, or it wants more bytes, and from where it goes the walk's step hands back the same
abbrev pub Right : List ℕ → State → LiveStep → Type 0
Right v s r = (r ≡ telling (step_at v s)) ⊎ ((r ≡ waiting r.walk) × (step_at v r.walk ≡ step_at v s))

-- WHAT WAS HANDED OUT IS WHAT THE WALK over a record hands out: as many calls of its step hand out xs, and its next step is the step from s
pub record Faithful (m : ℕ) (bytes : List ℕ) (s : State) (xs : List Out) : Type 0 where
  pub outs : map out_of (calls_at bytes (length xs) (start m)) ≡ xs
  pub next : step_at bytes s ≡ step_at bytes (state_after bytes (length xs) (start m))

-- AND IT IS ALL: every further call of the walk's step says done, at p
abbrev pub Complete : ℕ → List ℕ → List Out → ℕ → Type 0
Complete m bytes xs p = (k : ℕ) → map out_of (calls_at bytes (length xs + k) (start m)) ≡ xs ++ replicate k (done_out p)
