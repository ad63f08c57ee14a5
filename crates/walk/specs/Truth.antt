-- What a step's item says of the record, in terms of its bytes, and what the misses mean. `Truth.step_true` of proofs/: the former is so of every step from every state;
-- `Misses.misses_row` and `Misses.misses_items`: the latter is so of every state that a walk from its beginning reaches.
-- Assumes nothing.
use Rattle.std.specs.Prelude.{true, List, [], ◌∷◌, ◌⊎◌, ◌≡◌, ℕ, suc, ◌+◌, ◌*◌, ◌≤◌, ◌<◌, length}
use Rattle.frame.specs.declared.Header.{Header}
use Rattle.frame.specs.Rules.{refusal_of, Acceptable, NullTransmission}
use Rattle.frame.specs.Answers.{header_for}
use Rattle.refusals.specs.declared.Refusal.{Refusal}
use Rattle.refusals.specs.Refusals.{refusal_number}
use Rattle.walk.specs.declared.Item.{Item}
use Rattle.walk.specs.declared.Item.TheVariants.{Frame, Lost, Idle, Done}
use Rattle.walk.specs.declared.State.{State}
use Rattle.walk.specs.declared.Step.{Step}
use Rattle.walk.specs.Walk.{locked}
use Rattle.walk.specs.Records.{part, Allowed, within}
use Rattle.walk.specs.Demand3.{Keeping}

-- a frame with the header h is handed out at p, and the walk t, with limit m, goes on
pub record FrameTrue (m : ℕ) (bytes : List ℕ) (p : ℕ) (h : Header) (t : State) : Type 0 where
  pub fits : p + 6144 ≤ length bytes
  pub acceptable : Acceptable (part bytes p)
  pub header : h ≡ header_for (part bytes p)
  pub onward : t ≡ within m (locked (p + 6144) 0)

-- an idle item is handed out at p, and the walk t goes on
pub record IdleTrue (m : ℕ) (bytes : List ℕ) (p : ℕ) (t : State) : Type 0 where
  pub fits : p + 6144 ≤ length bytes
  pub null : NullTransmission (part bytes p)
  pub onward : t ≡ within m (locked (p + 6144) 0)

-- a lost mark with the refusal n is handed out at p
pub record LostTrue (bytes : List ℕ) (p : ℕ) (n : Refusal) : Type 0 where
  pub fits : p + 6144 ≤ length bytes
  pub number : refusal_number n ≡ refusal_of (part bytes p)
  pub refused : refusal_number n ≡ 0 → ⊥
  pub carrying : refusal_number n ≡ 4 → ⊥

-- the walk s can go no further: its limit is outside 1 to 8, from its place on a period does not exist, or it is in lock with its misses spent
abbrev pub Over : List ℕ → State → Type 0
Over bytes s = (Allowed s.limit → ⊥) ⊎ ((length bytes < s.position.place + 6144) ⊎ ((s.position.lock ≡ true) × (s.limit ≤ s.position.misses)))

-- from the walk s done is said at p, and the walk t is handed back
pub record DoneTrue (bytes : List ℕ) (s : State) (p : ℕ) (t : State) : Type 0 where
  pub place : t.position.place ≡ p
  pub over : Over bytes t
  -- the walk is as it was, or hunted on to the first place from which no period exists
  pub first : (t ≡ s) ⊎ (p + 6143 ≡ length bytes)

-- the item x and the walk t, handed back by a step from s
abbrev pub ItemTrue : List ℕ → State → Item → State → Type 0
ItemTrue bytes s (Frame p h) t = FrameTrue s.limit bytes p h t
ItemTrue bytes s (Lost p n) t = LostTrue bytes p n
ItemTrue bytes s (Idle p) t = IdleTrue s.limit bytes p t
ItemTrue bytes s (Done p) t = DoneTrue bytes s p t

abbrev pub StepTrue : List ℕ → State → Step → Type 0
StepTrue bytes s r = ItemTrue bytes s r.item r.walk

-- WHAT THE MISSES MEAN, in lock: fewer than the limit, they are the refusals in a row, for any reason but 4, since the last place with a frame or an idle item
pub record MissesRow (bytes : List ℕ) (s : State) : Type 0 where
  pub few : s.position.misses < s.limit
  pub last : ℕ
  pub kept : Keeping (part bytes last)
  pub missed : (i : ℕ) → i < s.position.misses → Keeping (part bytes (last + suc i * 6144)) → ⊥
  pub place : s.position.place ≡ last + suc s.position.misses * 6144

-- .. and of what has been handed out, hunting too: the lost marks since the last frame or idle item
abbrev pub misses_after : ℕ → Item → ℕ
misses_after k (Frame p h) = 0
misses_after k (Lost p n) = suc k
misses_after k (Idle p) = 0
misses_after k (Done p) = k

unfoldable pub misses_in : ℕ → List Step → ℕ
misses_in k [] = k
misses_in k (r ∷ l) = misses_in (misses_after k r.item) l
