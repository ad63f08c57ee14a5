-- The way out of a network frame.
-- Assumes nothing.
use mathlib.Core.Path.{◌≡◌, refl, sym, ap, ◌∙◌}
use mathlib.Core.Bool.{Bool, true}
use mathlib.Core.List.{List, []}
use Prim.Native.Nat.{ℕ, ◌+◌, ◌-◌, ◌*◌, ◌/◌, ◌%◌, ◌<◌, ◌≤◌}
use native.Mathlib.Nat.{add-sub_cancel_left}
use native.Mathlib.Omega.{arith}
use borrow.Author.Tests.{ne_eqb}
use lib.ListN.{length, get_or, drop, length-drop}
use lib.Seq.{length-take-le}
use Rattle.octets.specs.Words.{word_at}
use Rattle.frame.specs.Frame.{between, fl_of}
use Rattle.frame.specs.Rules.{refusal_of}
use Rattle.frame.proofs.Accepting.{acceptable}
use Rattle.array.specs.CodingArray.{width_of, lent, Parts}
use Rattle.array.specs.OutputArray.{output_of, array_of}
use Rattle.array.specs.PartLengths.{parts_refusal, refusal_beside}
use Rattle.array.proofs.Cells.{wide, width_below}
use Rattle.array.proofs.ThereAndBack.{output_array}
use Rattle.code.specs.Code.{is_clean}
use Rattle.coded.specs.Coded.{coded}
use Rattle.coded.proofs.CodedRows.{row_clean}
use Rattle.array.proofs.PartSizes.{one_of_six}
use Rattle.outward.proofs.CodedOut.{rows_length}
use Rattle.outward.specs.WayOut.{out_refusal, Sends}
use Rattle.line.specs.NetworkOut.{fl_in, logical_length, logical_of, with_frame, frame_refusal, SendsFrame}

-- FL is the lowest field of FC
pub lowest : (b : List ℕ) (at n : ℕ) → n ≡ word_at b at → n % 2048 ≡ fl_in b at
lowest b at n e = let q : n % 2048 ≡ n / 1 % 2048 = omega arith in q ∙ ap (λ (k : ℕ). k / 1 % 2048) e

pub frame_fl : (f : List ℕ) (n : ℕ) → n ≡ fl_in f 4 → n ≡ fl_of f
unfolding fl_of
frame_fl f n e = e

-- an accepted frame has the bytes that its FL calls for
pub logical_within_lem : (f : List ℕ) (fl : ℕ) → 0 ≡ refusal_of f → fl ≡ fl_of f → 4 + (fl + 3) * 4 ≤ length f
logical_within_lem f fl e q = let a = acceptable f (sym e) in rw q (omega (arith, a.whole, a.room))

pub logical_length_lem : (f : List ℕ) → refusal_of f ≡ 0 → length (logical_of f) ≡ logical_length f
logical_length_lem f z =
    let l = logical_within_lem f (fl_of f) (sym z) refl in
    rw (add-sub_cancel_left 4 (logical_length f)) (length-take-le (logical_length f) (drop 4 f) (rw length-drop (omega arith)))

module _ (fourteen : Bool) (f m s g h out : List ℕ) where
  abbrev w : ℕ
  w = width_of fourteen

  abbrev p : Parts
  p = lent [] m s g h []

  -- the lengths as they are asked for: those of the rows' check bytes are always right
  pub lengths_asked : (n k : ℕ) → k ≡ w → n ≡ parts_refusal w (length out) (length m) (length s) (length g) (length h) (24 * (240 - k)) → n ≡ refusal_beside w (with_frame w f p) out
  lengths_asked n k q e =
      e ∙ ap (parts_refusal w (length out) (length m) (length s) (length g) (length h)) (ap (λ (v : ℕ). 24 * (240 - v)) q ∙ sym (rows_length fourteen (logical_of f) m s g h out))

  pub refused_length : (n : ℕ) → n ≡ refusal_beside w (with_frame w f p) out → (n ≡ 0 → ⊥) → SendsFrame fourteen f p out out n
  unfolding frame_refusal
  refused_length n e z =
      record { number = one_of_six _ _ _ _ _ _ _ n e z ∙ rw (← e, ne_eqb n 0 z); bytes = rw (ne_eqb n 0 z) }

  pub refused_frame : (k : ℕ) → 0 ≡ refusal_beside w (with_frame w f p) out → k ≡ refusal_of f → (k ≡ 0 → ⊥) → SendsFrame fourteen f p out out k
  unfolding frame_refusal
  refused_frame k e q c = record { number = rw (← e, ← q, ne_eqb k 0 c); bytes = rw (ne_eqb k 0 c) }

  pub sent : (a fl : ℕ) (after : List ℕ) → 0 ≡ refusal_beside w (with_frame w f p) out → 0 ≡ refusal_of f → fl ≡ fl_of f → Sends fourteen (coded w (lent (between f 4 (4 + (fl + 3) * 4)) m s g h [])) out after a
      → SendsFrame fourteen f p out after a
  unfolding frame_refusal out_refusal
  sent a fl after e q d t =
      record {
        number = t.number ∙ rw (d, ← e, ← q, logical_length_lem f (sym q));
        bytes = t.bytes ∙ rw d;
      }

  -- every row of what is sent is clean
  pub sent_clean : (n : ℕ) (after : List ℕ) → SendsFrame fourteen f p out after n → n ≡ 0 → (i : ℕ) → i < 24 → is_clean (240 - w) (get_or (array_of after) i []) ≡ true
  sent_clean n after t z i l =
      let b = t.bytes in
      let o : after ≡ output_of w (with_frame w f p) = (rw z at b) in
      ap (λ (x : List ℕ). is_clean (240 - w) (get_or (array_of x) i [])) o
      ∙ ap (λ (c : List (List ℕ)). is_clean (240 - w) (get_or c i [])) (output_array w (with_frame w f p))
      ∙ row_clean (wide fourteen) (lent (logical_of f) m s g h []) (width_below fourteen) i l
