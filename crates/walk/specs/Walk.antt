-- The walk over a record, defined over any judging of its places. Nothing here says how a frame is read.
-- Assumes nothing.
use Rattle.std.specs.Prelude.{ℕ, zero, suc, ◌+◌, ◌-◌, ◌<◌, Bool, true, false, not, ◌&&◌, ◌||◌, List, [], ◌∷◌, leb, ltb}
use Rattle.std.proofs.Math.Option.{Option, none, some}
use Rattle.octets.specs.Choice.{pick}
use Rattle.refusals.specs.declared.Refusal.{Refusal}
use Rattle.frame.specs.declared.Header.{Header}
pub use Rattle.walk.specs.declared.Item.{Item}
pub use Rattle.walk.specs.declared.Item.TheVariants.{Frame, Lost, Idle, Done}
pub use Rattle.walk.specs.declared.Position.{Position}

-- What the walk goes by: whether a place stands, whether it reads as a null transmission, its sync word, the header that its reading gives, its refusal. They are asked only of places whose `period` bytes exist.
pub record Judged : Type 0 where
  pub len : ℕ
  pub period : ℕ
  pub limit : ℕ
  pub stands : ℕ → Bool
  pub null : ℕ → Bool
  pub sync : ℕ → Bool
  pub header : ℕ → Header
  pub refusal : ℕ → Refusal

-- what the walk's laws suppose of it
pub record Fair (R : Judged) : Type 0 where
  pub positive : 0 < R.period
  pub patient : 0 < R.limit

-- What comes of looking at one place: what is handed out, if anything, and where the walk goes.
pub record Look : Type 0 where
  pub gives : Option Item
  pub goes : Position

-- What a step hands back: the item and the advanced walk.
pub record Stepped : Type 0 where
  pub item : Item
  pub walk : Position

abbrev pub differ : Bool → Bool → Bool
differ true b = not b
differ false b = b

abbrev pub hunting : ℕ → ℕ → Position
hunting p k = record { place = p; misses = k; lock = false }

abbrev pub locked : ℕ → ℕ → Position
locked p k = record { place = p; misses = k; lock = true }

abbrev pub begin : Position
begin = hunting 0 0

-- THE RULES

-- the bytes of a period exist from p on
abbrev pub fits : Judged → ℕ → Bool
fits R p = leb (p + R.period) R.len

-- p stands, and the place a period later stands with the other sync word
unfoldable pub confirmed : Judged → ℕ → Bool
confirmed R p = R.stands p && (fits R (p + R.period) && (R.stands (p + R.period) && differ (R.sync p) (R.sync (p + R.period))))

-- the walk has a place to look at; if not, it is done
unfoldable pub live : Judged → Position → Bool
live R s = fits R s.place && not (s.lock && leb R.limit s.misses)

-- the frame that stands at p
abbrev pub frame_at : Judged → ℕ → Item
frame_at R p = Frame p (R.header p)

-- what a place gives the walk in lock
unfoldable pub item_at : Judged → ℕ → Item
item_at R p = pick (R.stands p) (frame_at R p) (pick (R.null p) (Idle p) (Lost p (R.refusal p)))

-- whether it keeps the lock, so that the misses are cleared
unfoldable pub keeps : Judged → ℕ → Bool
keeps R p = R.stands p || R.null p

-- in lock at p, after k misses
unfoldable pub look_locked : Judged → ℕ → ℕ → Look
look_locked R p k =
    record {
      gives = some (item_at R p);
      goes = pick (keeps R p) (locked (p + R.period) 0) (pick (ltb (k + 1) R.limit) (locked (p + R.period) (k + 1)) (hunting (p + 1) (k + 1)));
    }

-- hunting at p
unfoldable pub look_hunting : Judged → ℕ → ℕ → Look
look_hunting R p k =
    pick (confirmed R p)
    (record { gives = some (frame_at R p); goes = locked (p + R.period) 0 })
    (record { gives = none; goes = hunting (p + 1) k })

unfoldable pub look : Judged → Position → Look
look R s = pick s.lock (look_locked R s.place s.misses) (look_hunting R s.place s.misses)

-- THE WALK: nothing below here knows the rules

-- how many places are left, from the state's own place on
unfoldable pub left : Judged → Position → ℕ
left R s = suc R.len - (s.place + R.period)

-- the looks of a walk, at most n of them: the states in which it looks at a place
unfoldable pub looks_in : Judged → ℕ → Position → List Position
looks_in R zero s = []
looks_in R (suc n) s = elim (live R s) [ true ↦ s ∷ looks_in R n (look R s).goes | false ↦ [] ]

-- all the looks of the walk from s on: no walk looks more often than there are places left
unfoldable pub looks : Judged → Position → List Position
looks R s = looks_in R (left R s) s

-- what looks hand out
unfoldable pub giving : Option Item → List Item → List Item
giving none l = l
giving (some x) l = x ∷ l

unfoldable pub items_of : Judged → List Position → List Item
items_of R [] = []
items_of R (s ∷ l) = giving (look R s).gives (items_of R l)

-- what the walk from s on hands out, but for done
unfoldable pub items : Judged → Position → List Item
items R s = items_of R (looks R s)

-- the state in which the walk from s on is done
unfoldable pub rest_in : Judged → Position → List Position → Position
rest_in R s [] = s
rest_in R s (t ∷ l) = rest_in R (look R t).goes l

unfoldable pub rest : Judged → Position → Position
rest R s = rest_in R s (looks R s)

-- one step: on to the first look that hands out an item, and done where there is none
unfoldable pub step_by : Option Item → Position → Stepped → Stepped
step_by none s later = later
step_by (some x) s later = record { item = x; walk = s }

unfoldable pub step_in : Judged → Position → List Position → Stepped
step_in R s [] = record { item = Done s.place; walk = s }
step_in R s (t ∷ l) = step_by (look R t).gives (look R t).goes (step_in R (look R t).goes l)

unfoldable pub step_of : Judged → Position → Stepped
step_of R s = step_in R s (looks R s)

-- what n calls of the step hand back, one after another
unfoldable pub calls : Judged → ℕ → Position → List Item
calls R zero s = []
calls R (suc n) s = (step_of R s).item ∷ calls R n (step_of R s).walk
