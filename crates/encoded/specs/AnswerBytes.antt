-- Values in bytes, and the answer bytes of reading, as docs/BOUNDARY.md lays them out.
-- Assumes nothing.
use Rattle.std.specs.Prelude.{List, [], ◌∷◌, ◌++◌, ℕ, replicate}
use Rattle.frame.specs.declared.Header.{Header}
use Rattle.frame.specs.declared.Stream.{Stream}
use Rattle.octets.specs.Words.{split}
use Rattle.octets.specs.Stores.{bytes_of_each}
use Rattle.frame.specs.Frame.{streams_of}
use Rattle.frame.specs.Answers.{digit, sort_of, fields_of, table_by, time_by}
use Rattle.frame.specs.Writing.{stream_values}

-- values one after another, each in its number of bytes, high byte first
abbrev pub encode : List ℕ → List ℕ → List ℕ
encode [] vs = []
encode (n ∷ ns) [] = []
encode (n ∷ ns) (v ∷ vs) = split (replicate n 8) v ++ encode ns vs

-- level, sync word, FCT, FICF, NST, FP, MID, FL
abbrev pub first_counts : List ℕ
first_counts = 1 ∷ 1 ∷ 1 ∷ 1 ∷ 1 ∷ 1 ∷ 1 ∷ 2 ∷ []

abbrev pub first_values : Header → List ℕ
first_values h = h.level ∷ digit h.fsync1 ∷ h.fct ∷ digit h.ficf ∷ h.nst ∷ h.fp ∷ h.mid ∷ h.fl ∷ []

-- MNSC, Rfu, Rfa, the timestamp's sort and number
abbrev pub second_counts : List ℕ
second_counts = 2 ∷ 2 ∷ 1 ∷ 1 ∷ 3 ∷ []

abbrev pub second_values : Header → List ℕ
second_values h = h.mnsc ∷ h.rfu ∷ h.rfa ∷ sort_of h.timestamp ∷ time_by h.timestamp ∷ []

-- the main-stream sum as sent and as worked out
abbrev pub third_counts : List ℕ
third_counts = 2 ∷ 2 ∷ []

abbrev pub third_values : Header → List ℕ
third_values h = h.sent ∷ h.worked ∷ []

-- the header's values
abbrev pub head_counts : List ℕ
head_counts = first_counts ++ second_counts ++ third_counts

-- SCID, SAD, TPL, STL
abbrev pub stream_counts : List ℕ
stream_counts = 1 ∷ 2 ∷ 1 ∷ 2 ∷ []

abbrev pub stream_bytes : Stream → List ℕ
stream_bytes s = encode stream_counts (stream_values s)

unfoldable pub table_bytes : List Stream → List ℕ
table_bytes ss = bytes_of_each stream_bytes ss

-- the answer bytes: the header's values in 22, then 64 entries of 6
unfoldable pub answer_of : List ℕ → List ℕ
answer_of f = encode head_counts (fields_of f) ++ table_bytes (table_by (streams_of f))
