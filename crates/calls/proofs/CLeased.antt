-- A frame sent over a leased line from C, brought back and made again: no call refuses, and the frame made is read alike.
-- Assumes nothing.
use mathlib.Core.Path.{◌≡◌, refl, sym, ap, ◌∙◌}
use mathlib.Core.Bool.{Bool, true, false}
use mathlib.Core.List.{List, []}
use Prim.Native.Nat.{ℕ, ◌-◌, ◌*◌, ◌≤◌}
use native.Mathlib.Omega.{arith}
use borrow.Author.Tests.{eq-eqb, eqb-true, le-ltb}
use lib.Dec.{eqb}
use lib.ListN.{length, drop, replicate}
use Rattle.octets.specs.Choice.{pick}
use Rattle.frame.specs.Frame.{fl_of, carried_by}
use Rattle.array.specs.CodingArray.{carried, lent, coding_array, Parts}
use Rattle.array.specs.OutputArray.{output_at, output_of}
use Rattle.array.specs.PartLengths.{parts_refusal, refusal_beside}
use Rattle.array.proofs.Filling.{list_length}
use Rattle.homeward.specs.WayBack.{back_refusal, Returns}
use Rattle.line.specs.NetworkOut.{logical_length, with_frame, frame_refusal, SendsFrame}
use Rattle.line.proofs.FrameOut.{lengths_asked}
use Rattle.remade.specs.ReadAlike.{ReadAlike}
use Rattle.remade.specs.Remaking.{MakesFrame}
use Rattle.remade.proofs.Again.{same_reading, same_frame}
use Rattle.lines.specs.LinesBoundary.{variant_refusal, width_by, is_other}
use Rattle.calls.specs.LeasedTrips.{Trip, Lengths, Sendable}

-- a variant is the most that it carries
number : (v : ℕ) → variant_refusal v ≡ 0 → carried (width_by v) ≡ v
unfolding variant_refusal
number v e = go (eqb v 5592) refl (eqb v 5376) refl e
  where
    go : (a : Bool) → eqb v 5592 ≡ a → (b : Bool) → eqb v 5376 ≡ b → ◌≡◌ {A = ℕ} (pick a 0 (pick b 0 12)) 0 → carried (width_by v) ≡ v
    go true p b q z = rw (eqb-true v 5592 p)
    go false p true q z = rw (eqb-true v 5376 q)
    go false p false q z = absurd (omega arith)

all_right : (w o m s g h r : ℕ) → o ≡ 6144 → m ≡ 24 → s ≡ 24 → g ≡ 192 → h ≡ 192 → r ≡ 24 * (240 - w) → 0 ≡ parts_refusal w o m s g h r
unfolding parts_refusal
all_right w o m s g h r a b c d e k = rw (a, b, c, d, e, k, eq-eqb (24 * (240 - w)) (24 * (240 - w)) refl)

output_length : (w : ℕ) (p : Parts) → length (output_of w p) ≡ 6144
unfolding output_of
output_length w p = list_length (output_at p (coding_array w p)) 6144

module _ (variant choice level : ℕ) (f : List ℕ) (t : Trip variant choice level f) (l : Lengths variant choice level f t) (g : Sendable variant choice level f) where
  abbrev w : ℕ
  w = width_by variant

  abbrev beside : Parts
  beside = lent [] t.management t.supervision t.synchronising t.signalling []

  sends : SendsFrame (eqb variant 5376) f beside t.output_room t.output t.sent
  sends = let n = t.out.number in record { number = rw g.known at n; bytes = t.out.bytes }

  fits : logical_length f ≤ carried w
  fits = rw (number variant g.known) g.carried

  out_goes : t.sent ≡ 0
  unfolding frame_refusal
  out_goes =
      let e : 0 ≡ refusal_beside w (with_frame w f beside) t.output_room
      = lengths_asked (eqb variant 5376) f t.management t.supervision t.synchronising t.signalling t.output_room 0 w refl (all_right w _ _ _ _ _ _ l.output l.management l.supervision l.synchronising l.signalling refl) in
      sends.number ∙ rw (← e, g.accepted, le-ltb (carried w) (logical_length f) fits)

  returns : Returns (eqb variant 5376) t.output t.parts_room t.parts t.returned
  returns = let n = t.back.number in record { number = rw g.known at n; parts = t.back.parts }

  output_whole : length t.output ≡ 6144
  output_whole =
      let b = t.out.bytes in
      let o : t.output ≡ output_of w (with_frame w f beside) = (rw out_goes at b) in
      ap length o ∙ output_length w (with_frame w f beside)

  back_goes : t.returned ≡ 0
  unfolding back_refusal
  back_goes =
      let p = l.parts in
      let e : 0 ≡ refusal_beside w t.parts_room t.output = all_right w _ _ _ _ _ _ output_whole p.management p.supervision p.synchronising p.signalling p.check in
      returns.number ∙ rw (← e, eq-eqb (length t.parts_room.information) (carried w) (l.information ∙ sym (number variant g.known)))

  makes : MakesFrame (eqb variant 5376) (is_other choice) level t.parts.information t.frame_room t.made t.remade
  makes = let n = t.frame.number in record { number = rw g.known at n; bytes = t.frame.bytes }

  -- READ ALIKE: all three calls answer 0, and the frame made is read with the same fields, entries, FIC and streams, whatever its padding was
  pub trip_alike : (t.sent ≡ 0) × (t.returned ≡ 0) × (t.remade ≡ 0) × ReadAlike f t.made
  trip_alike =
      let a = same_reading (eqb variant 5376) f _ _ _ _ _ _ _ sends out_goes (is_other choice) level _ _ _ _ _ _ g.bytes g.own g.within returns back_goes l.frame makes in
      (out_goes, back_goes, a.0, a.1)

  -- and where its padding was 55, it is the same 6,144 bytes
  pub trip_same : drop (carried_by (fl_of f)) f ≡ replicate (6144 - carried_by (fl_of f)) 0x55 → t.made ≡ f
  trip_same e = (same_frame (eqb variant 5376) f _ _ _ _ _ _ _ sends out_goes (is_other choice) level _ _ _ _ _ _ g.bytes g.own g.within returns back_goes l.frame makes e).1
