-- A frame sent, brought back and made again.
-- Assumes nothing.
use mathlib.Core.Path.{◌≡◌, refl, sym, ap, ap₂, ◌∙◌}
use mathlib.Core.Bool.{Bool, true, false}
use mathlib.Core.List.{List, [], ◌∷◌, ◌++◌, append_assoc}
use Prim.Native.Nat.{ℕ, ◌+◌, ◌-◌, ◌*◌, ◌<◌, ◌≤◌}
use native.Mathlib.Nat.{add-sub_cancel_left}
use native.Mathlib.Omega.{arith}
use denote.Ref.{Bor}
use borrow.Author.Tests.{eq-eqb, eqb-true, ltb-false, le-ltb}
use lib.Dec.{eqb, ltb}
use lib.ListN.{length, get_or, take, drop, replicate, take-append-drop, length-append, length-replicate, get_or-append}
use lib.Seq.{length-take-le, get_or-take, get_or-drop, drop-drop, take-add}
use Rattle.octets.specs.Choice.{pick}
use Rattle.octets.specs.Words.{split, join, bytes4}
use Rattle.octets.proofs.SplitJoin.{split_join}
use Rattle.frame.specs.Frame.{fc_widths, fl_of, carried_by, cut}
use Rattle.frame.specs.declared.Span.{Span}
use Rattle.frame.specs.Rules.{refusal_of, main_part, fic_part, stream_part}
use Rattle.frame.specs.Answers.{PartAt}
use Rattle.frame.specs.Writing.{Bytes}
use Rattle.frame.proofs.Accepting.{acceptable}
use Rattle.frame.proofs.Fixed.{reading_fixed}
use Rattle.trips.proofs.Alike.{accepted_alike, read_alike, main_alike, fic_alike, stream_alike}
use Rattle.trips.proofs.Pieces.{sync_word}
use Rattle.array.specs.CodingArray.{width_of, carried, lent, Parts}
use Rattle.array.specs.OutputArray.{output_of, parts_of}
use Rattle.array.specs.PartLengths.{refusal_beside}
use Rattle.array.proofs.Cells.{wide}
use Rattle.array.proofs.Filling.{list_at, list_length, list_all, get_d_any}
use Rattle.array.proofs.PartSizes.{sized}
use Rattle.array.proofs.ThereAndBack.{out_back}
use Rattle.outward.proofs.CodedOut.{take-list}
use Rattle.homeward.specs.WayBack.{Returns}
use Rattle.line.specs.NetworkOut.{logical_length, logical_of, with_frame, frame_refusal, SendsFrame}
use Rattle.line.proofs.FrameOut.{logical_length_lem, logical_within_lem}
use Rattle.remade.specs.ReadAlike.{ReadAlike}
use Rattle.remade.specs.Remaking.{fl_within, logical_within, start_bytes, frame_made, early_refusal, making_refusal, MakesFrame, came_back, Own, repadded}

first_four : (f : List ℕ) → 4 ≤ length f → take 4 f ≡ get_or f 0 0 ∷ get_or f 1 0 ∷ get_or f 2 0 ∷ get_or f 3 0 ∷ []
first_four [] h = absurd (omega arith)
first_four (a ∷ []) h = absurd (omega arith)
first_four (a ∷ b ∷ []) h = absurd (omega arith)
first_four (a ∷ b ∷ c ∷ []) h = absurd (omega arith)
first_four (a ∷ b ∷ c ∷ d ∷ f) h = refl

same_fl : (b f : List ℕ) → get_or b 0 0 ≡ get_or f 4 0 → get_or b 1 0 ≡ get_or f 5 0 → get_or b 2 0 ≡ get_or f 6 0 → get_or b 3 0 ≡ get_or f 7 0 → fl_within b ≡ fl_of f
unfolding fl_within fl_of
same_fl b f e0 e1 e2 e3 = λ i. get_or (split fc_widths (join bytes4 (e0 i ∷ e1 i ∷ e2 i ∷ e3 i ∷ []))) 5 0

-- the bytes of a part, where those of another frame's are the same
part : {f g : List ℕ} (place : List ℕ → Span) (s t p q : Bor (List ℕ)) → s.now ≡ f → t.now ≡ g → cut g (place g) ≡ cut f (place f) → PartAt s (place s.now) p → PartAt t (place t.now) q → p.now ≡ q.now
part place s t p q e d c a b = a.bytes ∙ ap (λ (l : List ℕ). cut l (place l)) e ∙ sym c ∙ sym (ap (λ (l : List ℕ). cut l (place l)) d) ∙ sym b.bytes

module _ (f : List ℕ) (z : refusal_of f ≡ 0) (w : ℕ) (fits : logical_length f ≤ carried w) where
  abbrev L : ℕ
  L = logical_length f

  room : 4 + L ≤ length f
  room = logical_within_lem f (fl_of f) (sym z) refl

  came_at : (k : ℕ) → k < L → get_or (came_back w f) k 0 ≡ get_or f (4 + k) 0
  came_at k h =
      list_at (λ n. get_or (logical_of f) n 0xFF) 0 (carried w) k (omega arith)
      ∙ ap (λ (n : ℕ). get_or (take n (drop 4 f)) k 0xFF) (add-sub_cancel_left 4 L)
      ∙ get_or-take L (drop 4 f) k 0xFF h ∙ get_or-drop 4 f k 0xFF ∙ get_d_any f (4 + k) 0xFF 0 (omega (arith, room))

  fl_again : fl_within (came_back w f) ≡ fl_of f
  fl_again = same_fl (came_back w f) f (came_at 0 (omega arith)) (came_at 1 (omega arith)) (came_at 2 (omega arith)) (came_at 3 (omega arith))

  pub logical_again : logical_within (came_back w f) ≡ L
  logical_again = ap (λ (n : ℕ). (n + 3) * 4) fl_again

  pub bytes_again : take L (came_back w f) ≡ logical_of f
  bytes_again =
      take-list (λ n. get_or (logical_of f) n 0xFF) L (carried w) fits ∙ list_all 0xFF (logical_of f) L (logical_length_lem f z)

  start_own : (fsync1 : Bool) (level : ℕ) → Bytes f → Own f fsync1 level → start_bytes fsync1 level ≡ take 4 f
  unfolding start_bytes
  start_own fsync1 level y o =
      rw (o.status, o.sync)
      (ap (split bytes4) (sym (sync_word f y))
      ∙ split_join bytes4 (get_or f 0 0 ∷ get_or f 1 0 ∷ get_or f 2 0 ∷ get_or f 3 0 ∷ []) (y 0, (y 1, (y 2, (y 3, tt))))
      ∙ sym (first_four f (omega (arith, room))))

  pub made_again : (fsync1 : Bool) (level : ℕ) → Bytes f → Own f fsync1 level → frame_made fsync1 level (came_back w f) ≡ repadded f
  unfolding frame_made repadded
  made_again fsync1 level y o =
      ap₂ (λ (s : List ℕ) (n : ℕ). s ++ take n (came_back w f) ++ replicate (6140 - n) 0x55) (start_own fsync1 level y o) logical_again
      ∙ ap (λ (b : List ℕ). take 4 f ++ b ++ replicate (6140 - L) 0x55) bytes_again

  -- where that is 55 already, it is the frame
  pub padded : drop (carried_by (fl_of f)) f ≡ replicate (6144 - carried_by (fl_of f)) 0x55 → repadded f ≡ f
  unfolding repadded
  padded e =
      let k : 6140 - L ≡ 6144 - carried_by (fl_of f) = omega arith in
      let n : 4 + L - 4 ≡ L = add-sub_cancel_left 4 L in
      ap (λ (r : List ℕ). (take 4 f ++ logical_of f) ++ r) (ap (λ (n : ℕ). replicate n 0x55) k ∙ sym e ∙ sym (drop-drop L 4 f))
      ∙ append_assoc (take 4 f) (logical_of f) (drop L (drop 4 f))
      ∙ ap (λ (r : List ℕ). take 4 f ++ r) (ap (λ (n : ℕ). take n (drop 4 f) ++ drop L (drop 4 f)) n ∙ take-append-drop L (drop 4 f))
      ∙ take-append-drop 4 f

  -- it agrees with the frame in the length and in all that the frame carries
  front : take 4 f ++ logical_of f ≡ take (4 + L) f
  front = ap (λ (n : ℕ). take 4 f ++ take n (drop 4 f)) (add-sub_cancel_left 4 L) ∙ sym (take-add 4 L f)

  again_length : length (repadded f) ≡ length f
  unfolding repadded
  again_length =
      let size : length (take (4 + L) f) ≡ 4 + L = length-take-le (4 + L) f room in
      let rest : length {A = ℕ} (replicate (6140 - L) 0x55) ≡ 6140 - L = length-replicate {A = ℕ} (6140 - L) 0x55 in
      ap (λ (l : List ℕ). length (l ++ replicate (6140 - L) 0x55)) front
      ∙ length-append (take (4 + L) f) (replicate (6140 - L) 0x55)
      ∙ rw (size, rest) (omega (arith, (acceptable f z).whole, room))

  again_kept : (k : ℕ) → k < carried_by (fl_of f) → get_or (repadded f) k 0 ≡ get_or f k 0
  unfolding repadded
  again_kept k h =
      ap (λ (l : List ℕ). get_or (l ++ replicate (6140 - L) 0x55) k 0) front
      ∙ get_or-append (take (4 + L) f) (replicate (6140 - L) 0x55) 0 k (rw (length-take-le (4 + L) f room) h)
      ∙ get_or-take (4 + L) f k 0 h

  pub again_accepted : refusal_of (repadded f) ≡ 0
  again_accepted = accepted_alike f (repadded f) z again_length again_kept

  pub again_alike : ReadAlike f (repadded f)
  again_alike =
      record {
        reading = λ r q a b. reading_fixed f r q a (read_alike f (repadded f) z again_length again_kept q b);
        main = λ s t p q e d a b. part main_part s t p q e d (main_alike f (repadded f) z again_length again_kept) a b;
        fic = λ s t p q e d a b. part fic_part s t p q e d (fic_alike f (repadded f) z again_length again_kept) a b;
        stream = λ i s t p q e d a b. part (λ l. stream_part l i) s t p q e d (stream_alike f (repadded f) z again_length again_kept i) a b;
      }

-- ---- the three calls one after the other
went : (a b : ℕ) (c : Bool) → pick (eqb a 0) (pick (eqb b 0) (pick c 23 0) b) 1 ≡ 0 → (a ≡ 0) × (b ≡ 0) × (c ≡ false)
went a b c e = first (eqb a 0) refl e
  where
    last : (d : Bool) → d ≡ c → pick {A = ℕ} d 23 0 ≡ 0 → d ≡ false
    last true q t = absurd (omega arith)
    last false q t = refl

    second : (d : Bool) → eqb b 0 ≡ d → pick d (pick c 23 0) b ≡ 0 → (b ≡ 0) × (c ≡ false)
    second true q t = (eqb-true b 0 q, last c refl t)
    second false q t = absurd (let x : true ≡ false = (rw t at q) in let y : ◌≡◌ {A = ℕ} 0 1 = cc in omega arith)

    first : (d : Bool) → eqb a 0 ≡ d → pick d (pick (eqb b 0) (pick c 23 0) b) 1 ≡ 0 → (a ≡ 0) × (b ≡ 0) × (c ≡ false)
    first true q t = let u = second (eqb b 0) refl t in (eqb-true a 0 q, u.0, u.1)
    first false q t = absurd (omega arith)

module _ (fourteen : Bool) (f m s g h out o : List ℕ) (n : ℕ) (sends : SendsFrame fourteen f (lent [] m s g h []) out o n) (sent : n ≡ 0) where
  abbrev width : ℕ
  width = width_of fourteen

  abbrev parts : Parts
  parts = with_frame width f (lent [] m s g h [])

  facts : (refusal_beside width parts out ≡ 0) × (refusal_of f ≡ 0) × (ltb (carried width) (logical_length f) ≡ false)
  unfolding frame_refusal
  facts = went (refusal_beside width parts out) (refusal_of f) (ltb (carried width) (logical_length f)) (sym sends.number ∙ sent)

  pub accepted : refusal_of f ≡ 0
  accepted = facts.1

  pub carries : logical_length f ≤ carried width
  carries = ltb-false (carried width) (logical_length f) facts.2

  output : o ≡ output_of width parts
  output = let b = sends.bytes in rw sent at b

  pub information_back : (before after : Parts) (k : ℕ) → Returns fourteen o before after k → k ≡ 0 → after.information ≡ came_back width f
  information_back before after k t e =
      let b = t.parts in
      let q : after ≡ parts_of width o = (rw e at b) in
      let S = sized width parts out facts.0 (rw (logical_length_lem f accepted) carries) in
      ap (λ (x : Parts). x.information) (q ∙ ap (parts_of width) output ∙ out_back (wide fourteen) parts S)

  -- what is made of it with its own sync word and status byte is the frame with padding of 55
  module _ (fsync1 : Bool) (level : ℕ) (before after : Parts) (k : ℕ) (room made : List ℕ) (r : ℕ) (y : Bytes f) (own : Own f fsync1 level) (l : level ≤ 3)
      (t : Returns fourteen o before after k) (q : k ≡ 0) (size : length room ≡ 6144) (makes : MakesFrame fourteen fsync1 level after.information room made r) where
    again : List ℕ
    again = repadded f

    made_repadded : (r ≡ 0) × (made ≡ again)
    unfolding making_refusal early_refusal again
    made_repadded =
        let i = information_back before after k t q in
        let F : frame_made fsync1 level after.information ≡ again = ap (frame_made fsync1 level) i ∙ made_again f accepted width carries fsync1 level y own in
        let c : length after.information ≡ carried width = ap length i ∙ list_length (λ n. get_or (logical_of f) n 0xFF) (carried width) in
        let d : logical_within after.information ≡ logical_length f = ap logical_within i ∙ logical_again f accepted width carries in
        let none : early_refusal (carried width) (length after.information) (length room) level (logical_within after.information) ≡ 0 =
        rw (c, size, d, eq-eqb (carried width) (carried width) refl, le-ltb 3 level l, le-ltb (carried width) (logical_length f) carries) in
        let z : r ≡ 0 = makes.number ∙ rw (none, F) (again_accepted f accepted width carries) in
        let b = makes.bytes in
        let x : made ≡ frame_made fsync1 level after.information = (rw z at b) in
        (z, x ∙ F)

    -- THE FRAME MADE AGAIN: where its padding was 55, the same 6,144 bytes
    pub same_frame : drop (carried_by (fl_of f)) f ≡ replicate (6144 - carried_by (fl_of f)) 0x55 → (r ≡ 0) × (made ≡ f)
    unfolding again
    same_frame e = let m = made_repadded in (m.0, m.1 ∙ padded f accepted width carries e)

    -- and whatever its padding was, it is read alike: fields, entries, FIC and streams
    pub same_reading : (r ≡ 0) × ReadAlike f made
    unfolding again
    same_reading = let m = made_repadded in (m.0, rw m.1 (again_alike f accepted width carries))
