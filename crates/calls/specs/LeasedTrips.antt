-- A network frame over a leased line, from C: sent, brought back and made again, a call for each; the line gives back the output array as it was sent.
-- Assumes nothing.
use Rattle.std.specs.Prelude.{List, [], ◌≡◌, ℕ, ◌≤◌, length}
use Rattle.frame.specs.Rules.{refusal_of}
use Rattle.frame.specs.Writing.{Bytes}
use Rattle.array.specs.CodingArray.{Parts, lent}
use Rattle.array.specs.PartLengths.{Sized}
use Rattle.line.specs.NetworkOut.{logical_length}
use Rattle.remade.specs.Remaking.{Own}
use Rattle.lines.specs.LinesBoundary.{variant_refusal, width_by, is_other, LineOut, LineBack, LineFrame}

-- THE THREE CALLS: what each is lent, what it leaves there, and what it answers
pub record Trip (variant choice level : ℕ) (f : List ℕ) : Type 0 where
  -- `spindlewren_line_out` of the frame f
  pub management : List ℕ
  pub supervision : List ℕ
  pub synchronising : List ℕ
  pub signalling : List ℕ
  pub output_room : List ℕ
  pub output : List ℕ
  pub sent : ℕ
  pub out : LineOut variant f (lent [] management supervision synchronising signalling []) output_room output sent
  -- `spindlewren_line_back` of that output array
  pub parts_room : Parts
  pub parts : Parts
  pub returned : ℕ
  pub back : LineBack variant output parts_room parts returned
  -- `spindlewren_line_frame` of that information
  pub frame_room : List ℕ
  pub made : List ℕ
  pub remade : ℕ
  pub frame : LineFrame variant choice level parts.information frame_room made remade

-- what is lent has the right lengths
pub record Lengths (variant choice level : ℕ) (f : List ℕ) (t : Trip variant choice level f) : Type 0 where
  pub management : length t.management ≡ 24
  pub supervision : length t.supervision ≡ 24
  pub synchronising : length t.synchronising ≡ 192
  pub signalling : length t.signalling ≡ 192
  pub output : length t.output_room ≡ 6144
  pub information : length t.parts_room.information ≡ variant
  pub parts : Sized (width_by variant) t.parts_room
  pub frame : length t.frame_room ≡ 6144

-- the frame is accepted, the variant is one of the two and carries it, and choice and level are those of the frame's own sync word and status byte
pub record Sendable (variant choice level : ℕ) (f : List ℕ) : Type 0 where
  pub bytes : Bytes f
  pub accepted : refusal_of f ≡ 0
  pub known : variant_refusal variant ≡ 0
  pub carried : logical_length f ≤ variant
  pub own : Own f (is_other choice) level
  pub within : level ≤ 3
