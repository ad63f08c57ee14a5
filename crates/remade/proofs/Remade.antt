-- The frame made again: the turns of its loops, and its answer.
-- Assumes nothing.
use mathlib.Core.Path.{◌≡◌, refl, sym, ap, ◌∙◌}
use mathlib.Core.Bool.{Bool, true, false}
use mathlib.Core.List.{List, [], ◌∷◌, ◌++◌}
use Prim.Native.Nat.{ℕ, zero, suc, ◌+◌, ◌-◌, ◌*◌, ◌≤◌}
use native.Mathlib.Nat.{le_trans}
use native.Mathlib.Omega.{arith}
use borrow.Author.Tests.{ne_eqb, eqb-true, ltb-false}
use lib.Dec.{eqb, ltb, lit≤}
use lib.ListN.{length, take, drop, replicate, length-append, length-replicate}
use lib.Seq.{length-take-le}
use Rattle.octets.specs.Choice.{pick}
use Rattle.octets.specs.Words.{split, join, bytes4}
use Rattle.octets.specs.Stores.{put}
use Rattle.octets.proofs.Storing.{put_chain, put_room, put_length}
use Rattle.frame.specs.Frame.{sync_widths, status_by, fsync_by}
use Rattle.frame.specs.Rules.{refusal_of}
use Rattle.array.specs.CodingArray.{width_of, carried}
use Rattle.line.specs.NetworkOut.{fl_in}
use Rattle.homeward.proofs.Unplacing.{part_put}
use borrow.Rule.Slice.PartMut.{put_mid}
use Rattle.remade.specs.Remaking.{digit, fl_within, logical_within, start_bytes, frame_made, early_refusal, making_refusal, MakesFrame}

pub within_fl : (b : List ℕ) (n : ℕ) → n ≡ fl_in b 0 → n ≡ fl_within b
unfolding fl_within
within_fl b n e = e

drop-padding : (k n v : ℕ) → k ≤ n → drop k (replicate n v) ≡ replicate (n - k) v
drop-padding zero n v h = ap (λ (m : ℕ). replicate m v) (let q : n ≡ n - 0 = omega arith in q)
drop-padding (suc k) zero v h = absurd (omega arith)
drop-padding (suc k) (suc n) v h = drop-padding k n v (omega arith) ∙ ap (λ (m : ℕ). replicate m v) (let q : n - k ≡ suc n - suc k = omega arith in q)

pub start_length : (pad a : List ℕ) (start : ℕ) → pad ≡ replicate 6144 0x55 → a ≡ put pad 0 (split bytes4 start) → length a ≡ 6144
start_length pad a start z p =
    let size : length pad ≡ 6144 = ap length z ∙ length-replicate {A = ℕ} 6144 0x55 in
    ap length p ∙ put_length pad 0 (split bytes4 start) (omega arith) ∙ size

-- the start and the logical bytes put over padding
pub made_all : (pad a part b : List ℕ) (start logical : ℕ) → pad ≡ replicate 6144 0x55 → a ≡ put pad 0 (split bytes4 start) → part ≡ take logical b → logical ≤ length b → logical ≤ 6140
    → put_mid 4 (4 + logical - 4) a part ≡ split bytes4 start ++ take logical b ++ replicate (6140 - logical) 0x55
made_all pad a part b start logical z p q h l =
    let us = split bytes4 start in
    let vs = take logical b in
    let c : length vs ≡ logical = length-take-le logical b h in
    let size : length pad ≡ 6144 = ap length z ∙ length-replicate {A = ℕ} 6144 0x55 in
    let both : length (us ++ vs) ≡ 4 + logical = length-append us vs ∙ ap (λ (x : ℕ). 4 + x) c in
    let room : 4 + logical ≤ length a = rw (start_length pad a start z p) (omega arith) in
    let o : put_mid 4 (4 + logical - 4) a part ≡ put pad 0 (us ++ vs) =
    put_chain pad a (put_mid 4 (4 + logical - 4) a part) 0 4 us vs p (part_put a part 4 logical room (ap length q ∙ c) ∙ ap (put a 4) q) refl (omega arith) in
    o
    ∙ put_room pad 0 (us ++ vs) (omega arith)
    ∙ ap (λ (r : List ℕ). (us ++ vs) ++ r)
    (ap (λ (r : List ℕ). drop (0 + length (us ++ vs)) r) z ∙ drop-padding (0 + length (us ++ vs)) 6144 0x55 (omega arith) ∙ ap (λ (x : ℕ). replicate x 0x55) (let r : 6144 - (0 + length (us ++ vs)) ≡ 6140 - logical = omega arith in r))

passed : (p q r s : Bool) → pick {A = ℕ} p (pick q (pick r 12 (pick s 23 0)) 1) 1 ≡ 0 → (p ≡ true) × (q ≡ true) × (r ≡ false) × (s ≡ false)
passed true true false false e = (refl, refl, refl, refl)
passed true true false true e = absurd (omega arith)
passed true true true s e = absurd (omega arith)
passed true false r s e = absurd (omega arith)
passed false q r s e = absurd (omega arith)

most_carried : (x : Bool) → carried (width_of x) ≤ 6140
most_carried true = lit≤ tt
most_carried false = lit≤ tt

-- ---- the answer
module _ (fourteen fsync1 : Bool) (level : ℕ) (b out : List ℕ) where
  abbrev w : ℕ
  w = width_of fourteen

  pub refused_early : (n fl most : ℕ) → fl ≡ fl_within b → most ≡ carried w → n ≡ early_refusal most (length b) (length out) level ((fl + 3) * 4) → (n ≡ 0 → ⊥) → MakesFrame fourteen fsync1 level b out out n
  unfolding making_refusal
  refused_early n fl most d q e z =
      let f : n ≡ early_refusal (carried w) (length b) (length out) level (logical_within b) = e ∙ rw (d, q) in
      record { number = rw (← f, ne_eqb n 0 z); bytes = rw (ne_eqb n 0 z) }

  -- what is left after the first tests
  pub record Within (logical : ℕ) : Type 0 where
    pub whole : length b ≡ carried w
    pub carries : logical ≤ carried w
    pub room : length out ≡ 6144

  module _ (fl most : ℕ) (d : fl ≡ fl_within b) (q : most ≡ carried w) (e : 0 ≡ early_refusal most (length b) (length out) level ((fl + 3) * 4)) where
    early : early_refusal (carried w) (length b) (length out) level (logical_within b) ≡ 0
    early = sym (e ∙ rw (d, q))

    pub within : Within ((fl + 3) * 4)
    unfolding early_refusal
    within =
        let t = passed (eqb (length b) (carried w)) (eqb (length out) 6144) (ltb 3 level) (ltb (carried w) (logical_within b)) early in
        record {
          whole = eqb-true (length b) (carried w) t.0;
          carries = rw d (ltb-false (carried w) (logical_within b) t.3);
          room = eqb-true (length out) 6144 t.1;
        }

    pub bounds : ((fl + 3) * 4 ≤ length b) × ((fl + 3) * 4 ≤ 6140)
    bounds = (rw within.whole within.carries, le_trans within.carries (most_carried fourteen))

    made_frame : (start : ℕ) (f : List ℕ) → start ≡ join sync_widths (status_by level ∷ fsync_by (digit fsync1) ∷ [])
        → f ≡ split bytes4 start ++ take ((fl + 3) * 4) b ++ replicate (6140 - (fl + 3) * 4) 0x55 → f ≡ frame_made fsync1 level b
    unfolding frame_made start_bytes
    made_frame start f s m = m ∙ rw (s, d)

    pub refused_frame : (k start : ℕ) (f : List ℕ) → start ≡ join sync_widths (status_by level ∷ fsync_by (digit fsync1) ∷ [])
        → f ≡ split bytes4 start ++ take ((fl + 3) * 4) b ++ replicate (6140 - (fl + 3) * 4) 0x55 → k ≡ refusal_of f → (k ≡ 0 → ⊥) → MakesFrame fourteen fsync1 level b out out k
    unfolding making_refusal
    refused_frame k start f s m r c =
        record { number = r ∙ ap refusal_of (made_frame start f s m) ∙ rw early; bytes = rw (ne_eqb k 0 c) }

    pub remade : (start : ℕ) (f after : List ℕ) → start ≡ join sync_widths (status_by level ∷ fsync_by (digit fsync1) ∷ [])
        → f ≡ split bytes4 start ++ take ((fl + 3) * 4) b ++ replicate (6140 - (fl + 3) * 4) 0x55 → 0 ≡ refusal_of f → after ≡ f → MakesFrame fourteen fsync1 level b out after 0
    unfolding making_refusal
    remade start f after s m r a =
        record { number = r ∙ ap refusal_of (made_frame start f s m) ∙ rw early; bytes = a ∙ made_frame start f s m }
