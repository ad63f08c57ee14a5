-- Tables 8, 9 and 23 and annex A.3.1 of ETS 300 799, with T-08: asynchronous groups strung into messages.
-- Assumes nothing.
use Rattle.std.specs.Prelude.{List, [], ◌∷◌, ◌++◌, ℕ, ◌+◌, ◌*◌, ◌/◌, ◌%◌, eqb, ltb, length, get_or, take, drop}
use Rattle.std.proofs.Math.Option.{none, some}
use Rattle.sum.specs.Sum.{sum_of}
use Rattle.octets.specs.Choice.{pick}
use Rattle.octets.specs.Stores.{bytes_of_each}
use Rattle.signalling.specs.declared.Kind.{Kind}
use Rattle.signalling.specs.declared.Kind.TheVariants.{Start, Continuation, End, Other}
use Rattle.signalling.specs.Feeding.{Took, run, rest}
use Rattle.signalling.specs.Groups.{Frame, Gathered, group, missing, groups}

-- SB k of a group
abbrev pub SB : List ℕ → ℕ → ℕ
SB g k = get_or g k 0

-- tables 8 and 9: SB0 begins 11 for asynchronous signalling, and its last four bits tell the group's kind; padding is among the others
unfoldable pub kind_in : ℕ → Kind
kind_in sb0 =
    pick (eqb (sb0 / 64) 3)
    (pick (eqb (sb0 % 16) 0) Start (pick (eqb (sb0 % 16) 3) Continuation (pick (eqb (sb0 % 16) 12) End Other)))
    Other

abbrev pub kind_of : List ℕ → Kind
kind_of g = kind_in (SB g 0)

-- table 23: of a start the message's type, GrNb and four message bytes; of a continuation six; of an end four, and the closing sum
abbrev pub type_of : List ℕ → ℕ
type_of s = SB s 2

abbrev pub gr_nb : List ℕ → ℕ
gr_nb s = SB s 3

abbrev pub start_bytes : List ℕ → List ℕ
start_bytes s = drop 4 s

abbrev pub continuation_bytes : List ℕ → List ℕ
continuation_bytes g = drop 2 g

abbrev pub end_bytes : List ℕ → List ℕ
end_bytes g = take 4 (drop 2 g)

abbrev pub closing_sum : List ℕ → ℕ
closing_sum g = SB g 6 * 256 + SB g 7

-- no message is open, or one is: its start group and the continuations so far
pub data Strung : Type 0 where
  shut : Strung
  opened : List ℕ → List (List ℕ) → Strung

-- what is handed on: a message, its type and its message bytes, or a drop with its number
pub data Handed : Type 0 where
  message : ℕ → List ℕ → Handed
  dropped : ℕ → Handed

abbrev pub quiet : Strung → Took Strung Handed
quiet o = record { gives = none; goes = o }

abbrev pub hands : Handed → Strung → Took Strung Handed
hands x o = record { gives = some x; goes = o }

-- groups one after another
abbrev pub in_row : List (List ℕ) → List ℕ
in_row gs = bytes_of_each (λ g. g) gs

-- all bytes of the message's groups so far, and the message bytes among them
abbrev pub group_bytes : List ℕ → List (List ℕ) → List ℕ
group_bytes s cs = s ++ in_row cs

abbrev pub message_bytes : List ℕ → List (List ℕ) → List ℕ
message_bytes s cs = start_bytes s ++ bytes_of_each continuation_bytes cs

-- an end that is due: "from the first byte of the start group to the last message byte in the End Group, excluding any padding groups"
abbrev pub closed : List ℕ → List (List ℕ) → List ℕ → Handed
closed s cs g =
    pick (eqb (sum_of (group_bytes s cs ++ take 6 g)) (closing_sum g)) (message (type_of s) (message_bytes s cs ++ end_bytes g)) (dropped 26)

unfoldable pub by_kind : Kind → Strung → List ℕ → Took Strung Handed
by_kind Other o g = quiet o
by_kind Start shut g = quiet (opened g [])
by_kind Start (opened s cs) g = hands (dropped 25) (opened g [])
by_kind Continuation shut g = hands (dropped 25) shut
by_kind Continuation (opened s cs) g = pick (ltb (length cs) (gr_nb s)) (quiet (opened s (cs ++ (g ∷ [])))) (hands (dropped 25) shut)
by_kind End shut g = hands (dropped 25) shut
by_kind End (opened s cs) g = pick (eqb (length cs) (gr_nb s)) (hands (closed s cs g) shut) (hands (dropped 25) shut)

-- a dropped group is told of, and leaves an open message open
unfoldable pub string : Strung → Gathered → Took Strung Handed
string o missing = hands (dropped 24) o
string o (group g) = by_kind (kind_of g) o g

-- DEFINITION 2: the messages and drops of a list of groups and drops
abbrev pub messages : List Gathered → List Handed
messages gs = run string shut gs

-- the items of a list of frames, and the message that is open after them
abbrev pub items : List Frame → List Handed
items fs = messages (groups fs)

abbrev pub stringing : List Frame → Strung
stringing fs = rest string shut (groups fs)
