-- The way back: a message into groups (table 23), and groups into frames (table 7). Reserved bits are zero, and no padding is put in.
-- Assumes nothing.
use Rattle.std.specs.Prelude.{List, [], ◌∷◌, ◌++◌, ◌≡◌, ℕ, zero, suc, ◌+◌, ◌-◌, ◌*◌, ◌/◌, ◌%◌, eqb, ltb, length, take, drop}
use Rattle.sum.specs.Sum.{sum_of, sent}
use Rattle.octets.specs.Choice.{pick}
use Rattle.signalling.specs.Groups.{Frame}
use Rattle.signalling.specs.Messages.{in_row}

-- a start, a continuation, and an end with the closing sum of the bytes before it and its own
abbrev pub start_group : ℕ → ℕ → List ℕ → List ℕ
start_group type n four = 0xC0 ∷ 0 ∷ type ∷ n ∷ four

abbrev pub continuation_group : List ℕ → List ℕ
continuation_group six = 0xC3 ∷ 0 ∷ six

abbrev pub end_group : List ℕ → List ℕ → List ℕ
end_group before four = (0xCC ∷ 0 ∷ four) ++ sent (sum_of (before ++ (0xCC ∷ 0 ∷ four)))

-- n continuations, of six bytes each
unfoldable pub continuations : ℕ → List ℕ → List (List ℕ)
continuations zero body = []
continuations (suc n) body = continuation_group (take 6 body) ∷ continuations n (drop 6 body)

-- all groups before the end
abbrev pub before_end : ℕ → ℕ → List ℕ → List (List ℕ)
before_end type n body = start_group type n (take 4 body) ∷ continuations n (drop 4 body)

-- DEFINITION 3: the groups of a message of 8 + 6 n message bytes
unfoldable pub groups_of : ℕ → ℕ → List ℕ → List (List ℕ)
groups_of type n body = before_end type n body ++ (end_group (in_row (before_end type n body)) (drop (4 + 6 * n) body) ∷ [])

-- GrNb of a message of so many bytes
abbrev pub gr_nb_for : ℕ → ℕ
gr_nb_for len = (len - 8) / 6

-- the bytes of the frames' pairs, in their order
unfoldable pub bytes_of : ℕ → List ℕ → List ℕ
bytes_of type body = in_row (groups_of type (gr_nb_for (length body)) body)

-- table 7: byte pairs in frames, pair k in a frame whose phase is k modulo 4
unfoldable pub frames_from : ℕ → List ℕ → List Frame
frames_from k [] = []
frames_from k (a ∷ []) = []
frames_from k (a ∷ b ∷ l) = record { fp = k; mnsc = a * 256 + b } ∷ frames_from ((k + 1) % 4) l

abbrev pub frames_of : List (List ℕ) → List Frame
frames_of gs = frames_from 0 (in_row gs)

-- 36, a length other than 8 + 6 n with n from 0 to 255; then 1, another output than 8 bytes for each group
unfoldable pub send_refusal : ℕ → ℕ → ℕ
send_refusal len out =
    pick (ltb len 8) 36
    (pick (ltb 1538 len) 36
    (pick (eqb ((len - 8) % 6) 0)
    (pick (eqb out (8 * (gr_nb_for len + 2))) 0 1)
    36))

-- the number, and the output after it: the bytes of the pairs, or, refused, what it held
pub record SendsMessage (type : ℕ) (body l : List ℕ) (r : ℕ) (after : List ℕ) : Type 0 where
  pub number : r ≡ send_refusal (length body) (length l)
  pub bytes : after ≡ pick (eqb r 0) (bytes_of type body) l
