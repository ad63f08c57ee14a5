-- The bench figures marked P, as one table: what the definitions give beside the figure. `proofs/Figures.antt` shows that they agree.
-- Assumes nothing.
use Rattle.std.specs.Prelude.{false, List, [], ◌∷◌, ◌++◌, ℕ, ◌+◌, ◌-◌, replicate}
use Rattle.sum.specs.Sum.{sum_of}
use Rattle.frame.specs.declared.Span.{Span}
use Rattle.octets.specs.Words.{split, join, bytes4}
use Rattle.frame.specs.Answers.{timestamp_values, timestamp_for}
use Rattle.frame.specs.Frame.{fc_widths, ficl_by, sstc_widths, fl_by, fic_span, stream_span, carried_by, level_by}

infix 20 ◌gives◌
pub data Figure : Type 0 where
  ◌gives◌ : List ℕ → List ℕ → Figure

abbrev pub worked : Figure → List ℕ
worked (w gives f) = w

abbrev pub figure : Figure → List ℕ
figure (w gives f) = f

-- the bytes of a word with these fields
abbrev pub bytes_of : List ℕ → List ℕ → List ℕ
bytes_of widths fields = split bytes4 (join widths fields)

-- the first words of a frame: NST 1, FICF 1, MID 1, and STL 24
abbrev pub one_stream : List ℕ
one_stream = replicate 4 0 ++ bytes_of fc_widths (0 ∷ 1 ∷ 1 ∷ 0 ∷ 1 ∷ 74 ∷ []) ++ bytes_of sstc_widths (0 ∷ 0 ∷ 0 ∷ 24 ∷ [])

-- the first and the last byte of a span, counted from the logical frame's byte 0
abbrev pub logical : Span → List ℕ
logical s = (s.start - 4) ∷ (s.start + s.len - 5) ∷ []

abbrev pub figures : List Figure
figures =
    (sum_of [] ∷ [] gives 0x0000 ∷ [])
    ∷ (sum_of (0xFF ∷ []) ∷ [] gives 0x00FF ∷ [])
    ∷ (sum_of (0xFF ∷ 0xFF ∷ []) ∷ [] gives 0xFFFF ∷ [])
    ∷ (sum_of (0x00 ∷ []) ∷ [] gives 0x1E0F ∷ [])
    ∷ (fl_by 0 (ficl_by 0 0) 0 ∷ carried_by (fl_by 0 (ficl_by 0 0) 0) ∷ [] gives 1 ∷ 20 ∷ [])
    ∷ (fl_by 0 (ficl_by 1 3) 0 ∷ [] gives 33 ∷ [])
    ∷ (fl_by 1 (ficl_by 1 1) 24 ∷ logical (fic_span one_stream) ++ logical (stream_span one_stream 0) gives 74 ∷ 12 ∷ 107 ∷ 108 ∷ 299 ∷ [])
    ∷ (bytes_of fc_widths (249 ∷ 1 ∷ 1 ∷ 5 ∷ 2 ∷ 74 ∷ []) gives 0xF9 ∷ 0x81 ∷ 0xB0 ∷ 0x4A ∷ [])
    ∷ (bytes_of sstc_widths (1 ∷ 54 ∷ 34 ∷ 24 ∷ []) gives 0x04 ∷ 0x36 ∷ 0x88 ∷ 0x18 ∷ [])
    ∷ (level_by 0 false ∷ [] gives 2 ∷ [])
    ∷ (level_by 3 false ∷ [] gives 3 ∷ [])
    ∷ (0xF9FFFF ∷ timestamp_values (timestamp_for 0xF9FFFF) gives 16383999 ∷ 1 ∷ 0xF9FFFF ∷ [])
    ∷ (timestamp_values (timestamp_for 0xFA0000) gives 2 ∷ 0xFA0000 ∷ [])
    ∷ (timestamp_values (timestamp_for 0xFFFFFE) gives 2 ∷ 0xFFFFFE ∷ [])
    ∷ (timestamp_values (timestamp_for 0xFFFFFF) gives 0 ∷ 0xFFFFFF ∷ [])
    ∷ []
