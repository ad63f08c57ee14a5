-- What the theorems speak of: a message's groups, other groups put in between, a frame left out, and where a message came from.
-- Assumes nothing.
use Rattle.std.specs.Prelude.{Bool, List, [], ◌∷◌, ◌++◌, ◌≡◌, ℕ, suc, ◌<◌, length, take, drop}
use Rattle.octets.specs.Words.{Octets}
use Rattle.sum.specs.Sum.{sum_of}
use Rattle.signalling.specs.declared.Kind.TheVariants.{Start, Continuation, End, Other}
use Rattle.signalling.specs.Groups.{Frame, Gathering, Gathered, group}
use Rattle.signalling.specs.Messages.{kind_of, type_of, gr_nb, group_bytes, message_bytes, end_bytes, closing_sum, Strung, shut, opened, Handed, message, dropped}
use Rattle.sending.specs.SentGroups.{frames_from}

-- groups of eight bytes
pub data Eights : List (List ℕ) → Type 0 where
  none : Eights []
  more : {g : List ℕ} {gs : List (List ℕ)} → length g ≡ 8 → Octets g → Eights gs → Eights (g ∷ gs)

-- each is a continuation
pub data Continuing : List (List ℕ) → Type 0 where
  none : Continuing []
  more : {g : List ℕ} {gs : List (List ℕ)} → kind_of g ≡ Continuation → Continuing gs → Continuing (g ∷ gs)

-- a message's groups: a start, the stated number of continuations, an end; reserved bits as they like
pub record Sequence (s : List ℕ) (cs : List (List ℕ)) (e : List ℕ) : Type 0 where
  pub start : kind_of s ≡ Start
  pub continuing : Continuing cs
  pub count : length cs ≡ gr_nb s
  pub end : kind_of e ≡ End

-- the second is the first with padding and other passed-over groups put in anywhere
pub data Padded : List (List ℕ) → List (List ℕ) → Type 0 where
  none : Padded [] []
  same : {g : List ℕ} {gs hs : List (List ℕ)} → Padded gs hs → Padded (g ∷ gs) (g ∷ hs)
  other : {g : List ℕ} {gs hs : List (List ℕ)} → kind_of g ≡ Other → Padded gs hs → Padded gs (g ∷ hs)

-- a group's beginning: after a whole group, or while a phase 0 is waited for after a drop
abbrev pub at_start : Bool → Gathering
at_start waiting = record { bytes = []; waiting = waiting }

-- an open message is told of with 25 when a start comes
abbrev pub told : Strung → List Handed → List Handed
told shut l = l
told (opened s cs) l = dropped 25 ∷ l

-- the frames of a group, frame k left out
unfoldable pub lacking : ℕ → List ℕ → List Frame
lacking k g = take k (frames_from 0 g) ++ drop (suc k) (frames_from 0 g)

-- frame k of the group g is left out, and the groups hs stand behind it: without them a lost last frame is not seen yet
pub record Lost (k : ℕ) (g : List ℕ) (hs : List (List ℕ)) : Type 0 where
  pub frame : k < 4
  pub whole : length g ≡ 8
  pub bytes : Octets g
  pub behind : Eights hs
  pub some : 0 < length hs

-- x is among the items
pub data Among {A : Type 0} (x : A) : List A → Type 0 where
  here : {l : List A} → Among x (x ∷ l)
  later : {y : A} {l : List A} → Among x l → Among x (y ∷ l)

-- the groups stand, in this order, in what was gathered
pub data Within : List (List ℕ) → List Gathered → Type 0 where
  none : {l : List Gathered} → Within [] l
  next : {g : List ℕ} {gs : List (List ℕ)} {l : List Gathered} → Within gs l → Within (g ∷ gs) (group g ∷ l)
  past : {x : Gathered} {gs : List (List ℕ)} {l : List Gathered} → Within gs l → Within gs (x ∷ l)

-- where a message came from: a start, the stated number of continuations and an end, in this order, and a closing sum that fits
pub record Came (gathered : List Gathered) (type : ℕ) (body : List ℕ) : Type 0 where
  pub start : List ℕ
  pub continuations : List (List ℕ)
  pub end : List ℕ
  pub within : Within (start ∷ (continuations ++ (end ∷ []))) gathered
  pub sequence : Sequence start continuations end
  pub sum : sum_of (group_bytes start continuations ++ take 6 end) ≡ closing_sum end
  pub handed : message type body ≡ message (type_of start) (message_bytes start continuations ++ end_bytes end)
