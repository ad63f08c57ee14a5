-- Why was this period not aired: when each reason applies to a place of a record, said of the looks of the walk over it. `Reasons.one_reason` of proofs/: exactly one does.
-- Assumes nothing.
use Rattle.std.specs.Prelude.{Bool, true, false, not, ◌&&◌, ◌⊎◌, ◌≡◌, ℕ, ◌+◌, ◌≤◌, ◌<◌, ltb, length, Result, Ok, Err}
use mathlib.Core.List.{List, [], ◌∷◌, map, Memᴰ}
use Rattle.std.proofs.Math.Option.{none, some}
use Rattle.frame.specs.declared.Header.{Header}
use Rattle.frame.specs.Rules.{◌when◌, first}
use Rattle.refusals.specs.declared.Refusal.{Refusal}
use Rattle.refusals.specs.Refusals.{refusal_number, outcome_number}
use Rattle.walk.specs.declared.Item.{Item}
use Rattle.walk.specs.declared.Item.TheVariants.{Frame, Idle, Lost as LostMark}
use Rattle.walk.specs.declared.Position.{Position}
use Rattle.walk.specs.declared.State.{State}
use Rattle.walk.specs.declared.Step.{Step}
use Rattle.walk.specs.Walk.{Judged, fits, frame_at, look, looks, begin}
use Rattle.walk.specs.ItemValues.{done_kind, kind_of, place_of}
use Rattle.walk.specs.Records.{judged, allowed, calls_at}
use Rattle.why.specs.declared.Reason.{Reason}
use Rattle.why.specs.declared.Reason.TheVariants.{HandedOut, Lost, Refused, NotStanding, SameSync, SteppedOver}

-- OF A WALK WITH THE LOOKS l, AND A PLACE p

-- p is come to in the state s: it is one of the looks, and at p. A place only tried as another's confirmation is at no look, so it has not been come to
pub record Come (p : ℕ) (l : List Position) (s : Position) : Type 0 where
  pub looked : Memᴰ s l
  pub here : s.place ≡ p

-- p is come to, and x is handed out there
pub record HandedAt (R : Judged) (p : ℕ) (l : List Position) (x : Item) : Type 0 where
  pub state : Position
  pub come : Come p l state
  pub hands : (look R state).gives ≡ some x

-- p is come to while hunting, and nothing is handed out there
pub record HuntedOver (R : Judged) (p : ℕ) (l : List Position) : Type 0 where
  pub state : Position
  pub come : Come p l state
  pub hunts : state.lock ≡ false
  pub silent : (look R state).gives ≡ none

-- an item at q, before p, is handed out, and the walk goes on in lock past p
pub record SteppedPast (R : Judged) (p : ℕ) (l : List Position) (q : ℕ) : Type 0 where
  pub state : Position
  pub looked : Memᴰ state l
  pub item : Item
  pub hands : (look R state).gives ≡ some item
  pub its_place : place_of item ≡ q
  pub before : q < p
  pub locks : (look R state).goes.lock ≡ true
  pub past : p < (look R state).goes.place

-- the place a period after p stands; it does not where its bytes do not exist
unfoldable pub followed : Judged → ℕ → Bool
followed R p = fits R (p + R.period) && R.stands (p + R.period)

-- WHEN A REASON APPLIES
unfoldable pub AppliesIn : Judged → ℕ → List Position → Reason → Type 0
-- "handed out"; "idle items count as handed out"
AppliesIn R p l HandedOut = HandedAt R p l (frame_at R p) ⊎ HandedAt R p l (Idle p)
-- "lost, with the refusal number"
AppliesIn R p l (Lost n) = HandedAt R p l (LostMark p n)
-- "hunted over and refused, with the number": of a record it is the number there (`Numbered.refusal_told` of walk)
AppliesIn R p l (Refused n) = HuntedOver R p l × (R.stands p ≡ false) × (n ≡ R.refusal p)
-- "stood but the period after it did not confirm": it does not stand
AppliesIn R p l NotStanding = HuntedOver R p l × (R.stands p ≡ true) × (followed R p ≡ false)
-- or else it stands, with the same sync word
AppliesIn R p l SameSync = HuntedOver R p l × (R.stands p ≡ true) × (followed R p ≡ true) × (R.sync (p + R.period) ≡ R.sync p)
-- "never come to, because the walk in lock stepped over it, with the place of the item before it"
AppliesIn R p l (SteppedOver q) = SteppedPast R p l q

-- what the reasons agree with: the items that n calls of the step hand out, one after another; among items, a frame or an idle item at p
abbrev pub items_at : List ℕ → ℕ → State → List Item
items_at bytes n s = map (λ (r : Step). r.item) (calls_at bytes n s)

abbrev pub OutAt : ℕ → List Item → Type 0
OutAt p xs = ((h : Header) × Memᴰ (Frame p h) xs) ⊎ Memᴰ (Idle p) xs

-- .. and the last item up to p, done left aside, is at q, before p
pub record LastBefore (p q : ℕ) (xs : List Item) : Type 0 where
  pub before : q < p
  pub item : Item
  pub handed : Memᴰ item xs
  pub not_done : kind_of item ≡ done_kind → ⊥
  pub its_place : place_of item ≡ q
  pub last : (x : Item) → Memᴰ x xs → (kind_of x ≡ done_kind → ⊥) → place_of x ≤ p → place_of x ≤ q

-- .. and, of what the calls hand back, p is stepped over from q: an item, not done, is at q, before p, and the walk that comes with it is in lock past p
pub record SteppedFrom (p q : ℕ) (rs : List Step) : Type 0 where
  pub call : Step
  pub made : Memᴰ call rs
  pub not_done : kind_of call.item ≡ done_kind → ⊥
  pub its_place : place_of call.item ≡ q
  pub before : q < p
  pub locks : call.walk.position.lock ≡ true
  pub past : p < call.walk.position.place

-- OF A RECORD: the walk over it from its beginning, with a limit of misses
abbrev pub Applies : List ℕ → ℕ → ℕ → Reason → Type 0
Applies bytes limit place r = AppliesIn (judged limit bytes) place (looks (judged limit bytes) begin) r

-- 27 for the limit first, then 34 for a place outside 0 to length - 6,144, which is any place where the record is shorter
unfoldable pub why_refusal_of : List ℕ → ℕ → ℕ → ℕ
why_refusal_of bytes limit place = first ((27 when not (allowed limit)) ∷ (34 when ltb (length bytes) (place + 6144)) ∷ [])

-- A REASON'S NUMBERS

-- of its case
abbrev pub reason_number : Reason → ℕ
reason_number HandedOut = 0
reason_number (Lost n) = 1
reason_number (Refused n) = 2
reason_number NotStanding = 3
reason_number SameSync = 4
reason_number (SteppedOver q) = 5

-- the refusal number that it gives, 0 where it gives none
abbrev pub refusal_given : Reason → ℕ
refusal_given HandedOut = 0
refusal_given (Lost n) = refusal_number n
refusal_given (Refused n) = refusal_number n
refusal_given NotStanding = 0
refusal_given SameSync = 0
refusal_given (SteppedOver q) = 0

-- the place of the item before it, 0 where it gives none
abbrev pub place_given : Reason → ℕ
place_given HandedOut = 0
place_given (Lost n) = 0
place_given (Refused n) = 0
place_given NotStanding = 0
place_given SameSync = 0
place_given (SteppedOver q) = q

abbrev pub reason_values : Reason → List ℕ
reason_values r = reason_number r ∷ refusal_given r ∷ place_given r ∷ []

-- AN ANSWER: its number is the outcome's, 0 where there is a reason; its values, none where it is refused
abbrev pub answer_values : Result Reason Refusal → List ℕ
answer_values (Ok r) = reason_values r
answer_values (Err n) = []

-- they are the values of a reason that applies
pub record Reasoned (bytes : List ℕ) (limit place : ℕ) (values : List ℕ) : Type 0 where
  pub reason : Reason
  pub applies : Applies bytes limit place reason
  pub same : values ≡ reason_values reason

-- what is answered: the refusal, or the reason that applies
pub record Answers (bytes : List ℕ) (limit place : ℕ) (a : Result Reason Refusal) : Type 0 where
  pub number : outcome_number a ≡ why_refusal_of bytes limit place
  pub reasoned : why_refusal_of bytes limit place ≡ 0 → Reasoned bytes limit place (answer_values a)
  pub refused : (why_refusal_of bytes limit place ≡ 0 → ⊥) → answer_values a ≡ []
