-- When a frame is refused, and with which number.
-- Assumes nothing.
use Rattle.std.specs.Prelude.{Bool, true, false, not, ◌||◌, List, [], ◌∷◌, ◌++◌, ◌⊎◌, ◌≡◌, ℕ, ◌+◌, ◌*◌, ◌≤◌, ◌<◌, eqb, ltb, leb, length}
use Rattle.sum.specs.Sum.{sum_of}
use Rattle.frame.specs.declared.Span.{Span}
use Rattle.frame.specs.declared.Stream.{Stream}
use Rattle.octets.specs.Words.{word_at}
use Rattle.octets.specs.Choice.{pick, place_in}
use Rattle.frame.specs.Frame.{statuses, err_of, fsyncs, fsync_of, fct_of, nst_of, fl_of, ficl_of, stream_of, streams_of, stl_total, fl_by, header_bytes_of, header_sum_of, main_span, fic_span, stream_span}

-- a rule: the refusal's number, and whether its condition holds
infix 20 ◌when◌
pub data Rule : Type 0 where
  ◌when◌ : ℕ → Bool → Rule

-- the number of the first rule that holds, and 0 where none does
abbrev pub first : List Rule → ℕ
first [] = 0
first ((n when b) ∷ rs) = pick b n (first rs)

-- no rule holds
abbrev pub NoneHold : List Rule → Type 0
NoneHold [] = Unit {0}
NoneHold ((n when b) ∷ rs) = (b ≡ false) × NoneHold rs

-- rule n holds, and no earlier one
pub record FirstToHold (rs : List Rule) (n : ℕ) : Type 0 where
  pub earlier : List Rule
  pub later : List Rule
  pub stands : rs ≡ earlier ++ ((n when true) ∷ later)
  pub none : NoneHold earlier

-- 0 and no rule holds, or the number of the first that does
abbrev pub Settled : List Rule → Type 0
Settled rs = ((first rs ≡ 0) × NoneHold rs) ⊎ FirstToHold rs (first rs)

unfoldable pub some_stl_above : ℕ → List Stream → Bool
some_stl_above m [] = false
some_stl_above m (s ∷ ss) = ltb m s.stl || some_stl_above m ss

-- reading's rules, in number order
abbrev pub rules_of : List ℕ → List Rule
rules_of f =
    (1 when not (eqb (length f) 6144))
    ∷ (2 when ltb 1 (place_in fsyncs (fsync_of f)))
    ∷ (3 when ltb 3 (place_in statuses (err_of f)))
    ∷ (4 when eqb (word_at f 4) 0xFFFFFFFF)
    ∷ (5 when ltb 64 (nst_of f))
    ∷ (6 when not (eqb (sum_of (header_bytes_of f)) (header_sum_of f)))
    ∷ (7 when ltb 249 (fct_of f))
    ∷ (8 when some_stl_above 684 (streams_of f))
    ∷ (9 when not (eqb (fl_of f) (fl_by (nst_of f) (ficl_of f) (stl_total (streams_of f)))))
    ∷ (10 when ltb 1532 (fl_of f))
    ∷ []

unfoldable pub refusal_of : List ℕ → ℕ
refusal_of f = first (rules_of f)

-- an acceptable frame, in plain words: the sync word is the one or the other, the status byte one of the four, FC is not all ones, ..
pub record Acceptable (f : List ℕ) : Type 0 where
  pub whole : length f ≡ 6144
  pub synced : (fsync_of f ≡ 0x073AB6) ⊎ (fsync_of f ≡ 0xF8C549)
  pub status : (err_of f ≡ 0xFF) ⊎ ((err_of f ≡ 0xF0) ⊎ ((err_of f ≡ 0x0F) ⊎ (err_of f ≡ 0x00)))
  pub carrying : word_at f 4 ≡ 0xFFFFFFFF → ⊥
  pub streams : nst_of f ≤ 64
  pub headed : sum_of (header_bytes_of f) ≡ header_sum_of f
  pub counted : fct_of f ≤ 249
  pub lengths : (i : ℕ) → i < nst_of f → (stream_of f i).stl ≤ 684
  pub formula : fl_of f ≡ nst_of f + 1 + ficl_of f + 2 * stl_total (streams_of f)
  pub room : fl_of f ≤ 1532

-- a null transmission, in plain words: the sync word and the status byte are good, and logical bytes 0 to 3 are all FF
pub record NullTransmission (f : List ℕ) : Type 0 where
  pub whole : length f ≡ 6144
  pub synced : (fsync_of f ≡ 0x073AB6) ⊎ (fsync_of f ≡ 0xF8C549)
  pub status : (err_of f ≡ 0xFF) ⊎ ((err_of f ≡ 0xF0) ⊎ ((err_of f ≡ 0x0F) ⊎ (err_of f ≡ 0x00)))
  pub null : word_at f 4 ≡ 0xFFFFFFFF

-- a request for stream i: reading's refusal first, then 13
unfoldable pub stream_refusal_of : List ℕ → ℕ → ℕ
stream_refusal_of f i = first (rules_of f ++ ((13 when leb (nst_of f) i) ∷ []))

-- what a request hands back: the part, or, refused, an empty part at the frame's start
abbrev pub granted : ℕ → Span → Span
granted refusal span = pick (eqb refusal 0) span (record { start = 0; len = 0 })

unfoldable pub main_part : List ℕ → Span
main_part f = granted (refusal_of f) (main_span f)

unfoldable pub fic_part : List ℕ → Span
fic_part f = granted (refusal_of f) (fic_span f)

unfoldable pub stream_part : List ℕ → ℕ → Span
stream_part f i = granted (stream_refusal_of f i) (stream_span f i)
