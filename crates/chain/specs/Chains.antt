-- T-12, chains of relays: a first frame, what arrives at each relay, and what each relay leaves. `Relays` is the contract of the running `relay`: here the two meet.
-- Assumes nothing.
use Rattle.std.specs.Prelude.{Bool, List, [], ◌∷◌, map, ◌⊎◌, ◌≡◌, ℕ, ◌≤◌, ◌<◌, max, eqb, length, get_or}
use Rattle.sum.specs.Sum.{sum_of}
use Rattle.octets.specs.Choice.{pick, place_in}
use Rattle.frame.specs.Frame.{statuses, err_of, nst_of, main_start, main_of, main_sum_of, cut}
use Rattle.frame.specs.Rules.{refusal_of, stream_refusal_of, fic_part, stream_part}
use Rattle.frame.specs.Answers.{header_for}
use Rattle.frame.specs.Writing.{frame_in}
use Rattle.relay.specs.Relaying.{fields_for, Relays}

-- ---- the chain
-- what may happen on the way to a relay: the length, the status byte, the sync word and the header (FC, STC, EOH) arrive as they were sent; every other byte may be anything
pub record Arrives (sent arrived : List ℕ) : Type 0 where
  pub whole : length arrived ≡ length sent
  pub status : get_or arrived 0 0 ≡ get_or sent 0 0
  pub sync : (k : ℕ) → 1 ≤ k → k < 4 → get_or arrived k 0 ≡ get_or sent k 0
  pub header : (k : ℕ) → 4 ≤ k → k < main_start (nst_of sent) → get_or arrived k 0 ≡ get_or sent k 0

-- a relay of a chain: what arrived at it, what its output held, what it left there, and the number that it answered
pub record Relay : Type 0 where
  pub arrived : List ℕ
  pub was : List ℕ
  pub left : List ℕ
  pub number : ℕ

-- the relay at which these bytes arrive, with this output: it leaves the frame written from what it read, and answers 0
abbrev pub relaying : List ℕ → List ℕ → Relay
relaying arrived was =
    record { arrived = arrived; was = was; left = frame_in (fields_for arrived) (main_of arrived); number = 0 }

-- it got what was sent to it, damaged or not, and relayed it into an output of 6,144 bytes that held anything
pub record Link (sent : List ℕ) (r : Relay) : Type 0 where
  pub way : Arrives sent r.arrived
  pub lent : length r.was ≡ 6144
  pub relayed : Relays r.arrived r.was r.left r.number

-- the first relay is sent the first frame, and each other one what the relay before it left
abbrev pub Chain : List ℕ → List Relay → Type 0
Chain first [] = Unit {0}
Chain first (r ∷ rs) = Link first r × Chain r.left rs

-- the frame at the end: what the last relay left
abbrev pub end_of : List ℕ → List Relay → List ℕ
end_of first [] = first
end_of first (r ∷ rs) = end_of r.left rs

-- the last of the relays r, rs
abbrev pub last_of : Relay → List Relay → Relay
last_of r [] = r
last_of r (q ∷ rs) = last_of q rs

abbrev pub Each : (Relay → Type 0) → List Relay → Type 0
Each P [] = Unit {0}
Each P (r ∷ rs) = P r × Each P rs

abbrev pub Some : (Relay → Type 0) → List Relay → Type 0
Some P [] = ⊥
Some P (r ∷ rs) = P r ⊎ Some P rs

-- ---- the levels
-- the level that stands in a frame: its status byte's
abbrev pub level_in : List ℕ → ℕ
level_in f = place_in statuses (err_of f)

abbrev pub sum_right : List ℕ → Bool
sum_right f = eqb (sum_of (main_of f)) (main_sum_of f)

-- a relay that met a wrong main-stream sum, and the level that it calls for
abbrev pub MetWrong : Relay → Type 0
MetWrong r = sum_of (main_of r.arrived) ≡ main_sum_of r.arrived → ⊥

abbrev pub called_for : Relay → ℕ
called_for r = pick (sum_right r.arrived) 0 2

-- the worst of some levels: 3 is the worst
abbrev pub worst : List ℕ → ℕ
worst [] = 0
worst (n ∷ ns) = max n (worst ns)

-- the level due at the end: the worst of the first frame's and 2 for each wrong sum met
abbrev pub level_due : List ℕ → List Relay → ℕ
level_due first rs = worst (level_in first ∷ map called_for rs)

-- the level that the last relay's reading hands on, that stands in the frame at the end, and that is read from it
pub record LevelAtEnd (first : List ℕ) (r : Relay) (rs : List Relay) (level : ℕ) : Type 0 where
  pub handed : (header_for (last_of r rs).arrived).level ≡ level
  pub stands : level_in (end_of first (r ∷ rs)) ≡ level
  pub read : (header_for (end_of first (r ∷ rs))).level ≡ level

-- ---- what is so of each relay of a chain
-- it does not refuse; what it leaves is accepted, with the level that its reading handed on, a right main-stream sum, and the main stream that arrived
pub record PassesOn (r : Relay) : Type 0 where
  pub number : r.number ≡ 0
  pub accepted : refusal_of r.left ≡ 0
  pub level : level_in r.left ≡ (header_for r.arrived).level
  pub read : (header_for r.left).level ≡ level_in r.left
  pub sums : (header_for r.left).sent ≡ (header_for r.left).worked
  pub main : main_of r.left ≡ main_of r.arrived

-- a frame that reads with its sums equal and its level at 2 or 3
pub record Unwashed (f : List ℕ) : Type 0 where
  pub accepted : refusal_of f ≡ 0
  pub sums : (header_for f).sent ≡ (header_for f).worked
  pub level : ((header_for f).level ≡ 2) ⊎ ((header_for f).level ≡ 3)

-- ---- no damage
-- no damage at all: each relay got what was sent to it
abbrev pub Undamaged : List ℕ → List Relay → Type 0
Undamaged first [] = Unit {0}
Undamaged first (r ∷ rs) = (r.arrived ≡ first) × Undamaged r.left rs

-- no damage to the main stream, whatever happened to the rest
abbrev pub MainKept : List ℕ → List Relay → Type 0
MainKept first [] = Unit {0}
MainKept first (r ∷ rs) = (main_of r.arrived ≡ main_of first) × MainKept r.left rs

-- the requests `fic` and `stream` hand out the same bytes of g as of f, and refuse alike
pub record SameParts (f g : List ℕ) : Type 0 where
  pub fic : cut g (fic_part g) ≡ cut f (fic_part f)
  pub stream : (i : ℕ) → cut g (stream_part g i) ≡ cut f (stream_part f i)
  pub refusal : (i : ℕ) → stream_refusal_of g i ≡ stream_refusal_of f i
