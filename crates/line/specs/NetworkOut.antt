-- T-03 and T-05: the way out of a network frame. It is read first; its logical bytes are the information bytes, and FF fills from (FL + 3) x 4 on. The
-- check bytes are those of the rows.
-- Assumes nothing.
use Rattle.std.specs.Prelude.{Bool, List, [], ◌≡◌, ℕ, ◌+◌, ◌*◌, eqb, ltb, get_or}
use Rattle.octets.specs.Choice.{pick}
use Rattle.octets.specs.Words.{split, word_at}
use Rattle.frame.specs.Frame.{between, fc_widths, fl_of}
use Rattle.frame.specs.Rules.{refusal_of}
use Rattle.array.specs.CodingArray.{width_of, carried, Parts, lent}
use Rattle.array.specs.OutputArray.{output_of}
use Rattle.array.specs.PartLengths.{refusal_beside}
use Rattle.coded.specs.Coded.{coded}

-- FL, the lowest field of the FC that begins at a byte
abbrev pub fl_in : List ℕ → ℕ → ℕ
fl_in b at = get_or (split fc_widths (word_at b at)) 5 0

-- the bytes of the logical frame, clause 5.3.6: FL words, the one before them and the two behind them
abbrev pub logical_length : List ℕ → ℕ
logical_length f = (fl_of f + 3) * 4

abbrev pub logical_of : List ℕ → List ℕ
logical_of f = between f 4 (4 + logical_length f)

-- the information bytes of the frame beside the other parts, with the rows' check bytes
abbrev pub with_frame : ℕ → List ℕ → Parts → Parts
with_frame w f p = coded w (lent (logical_of f) p.management p.supervision p.synchronising p.signalling [])

-- 1 for a part of the wrong length, then reading's numbers, then 23 where the logical frame has more bytes than the variant carries
unfoldable pub frame_refusal : ℕ → List ℕ → Parts → List ℕ → ℕ
frame_refusal w f p output =
    pick (eqb (refusal_beside w (with_frame w f p) output) 0)
    (pick (eqb (refusal_of f) 0) (pick (ltb (carried w) (logical_length f)) 23 0) (refusal_of f))
    1

-- the number, and the output: the output array of the frame and the parts, or as it was
pub record SendsFrame (fourteen : Bool) (f : List ℕ) (p : Parts) (before after : List ℕ) (n : ℕ) : Type 0 where
  pub number : n ≡ frame_refusal (width_of fourteen) f p before
  pub bytes : after ≡ pick (eqb n 0) (output_of (width_of fourteen) (with_frame (width_of fourteen) f p)) before
