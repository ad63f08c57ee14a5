-- Rows in runs of the interleaving array, and the way back's answer.
-- Assumes nothing.
use mathlib.Core.Path.{◌≡◌, refl, sym, ap, ap₂, ◌∙◌}
use mathlib.Core.Bool.{Bool, false}
use mathlib.Core.List.{List, [], ◌∷◌}
use Prim.Native.Nat.{ℕ, zero, suc, ◌+◌, ◌-◌, ◌*◌, ◌/◌, ◌%◌, ◌<◌, ◌≤◌}
use native.Mathlib.Nat.{div-lt_iff_lt-mul, mod-lt, mul-le-mul_right}
use native.Mathlib.Omega.{arith}
use borrow.Author.Tests.{eq-eqb, ne_eqb, lt-ltb, le-ltb, le-leb}
use borrow.Rule.Slice.PartMut.{put_mid}
use lib.Arith.{digits_div, digits_mod}
use lib.Dec.{eqb, ltb, lit<}
use lib.ListN.{length, get_or, take, drop, length-drop}
use lib.Seq.{length-take-le}
use Rattle.std.proofs.lemmas.List.{drop-drop}
use Rattle.std.proofs.Common.{append_assoc}
use Rattle.octets.specs.Stores.{put}
use Rattle.octets.proofs.Storing.{put_all}
use Rattle.octets.proofs.Deciding.{not_both}
use Rattle.array.specs.Listed.{list}
use Rattle.array.specs.CodingArray.{Wide, superblock, upper_row, width_of, carried, Parts, lent, taken, index_at, at, row_of, column_of, information_of, blocks_of, check_of}
use Rattle.array.specs.OutputArray.{interleaved, sent, place, array_row, array_of, g_bytes_of, parts_of}
use Rattle.array.specs.PartLengths.{parts_refusal, refusal_beside}
use Rattle.array.proofs.Cells.{wide, placed, held, width_below}
use Rattle.array.proofs.Filling.{Filled, filled_none, filled_run, list_at, list_length, list_same}
use Rattle.array.proofs.Sending.{array_of_at}
use Rattle.array.proofs.PartSizes.{one_of_six, six}
use Rattle.homeward.specs.BackClauses.{stepped, Reaches, interleaving_of, cell, byte_of, block_of, check_byte_of, Out, Room, HandsOut}
use Rattle.homeward.specs.WayBack.{back_refusal, Returns}

-- a part written, as bytes put there
pub part_put : (out part : List ℕ) (to n : ℕ) → to + n ≤ length out → length part ≡ n → put_mid to (to + n - to) out part ≡ put out to part
unfolding put
part_put out part to n h e =
    let k : to + n - to ≡ n = omega arith in
    rw (k, le-leb (to + length part) (length out) (rw e h), e, drop-drop) (sym (append_assoc (take to out) part (drop (to + n) out)))

pub part_length : (out : List ℕ) (to n : ℕ) → to + n ≤ length out → length (take (to + n - to) (drop to out)) ≡ n
part_length out to n h = let k : to + n - to ≡ n = omega arith in rw k (length-take-le n (drop to out) (rw length-drop (omega arith)))

-- ---- a run of a row
along : (i j m : ℕ) → interleaved i j + 8 * m ≡ interleaved i (j + m)
along i j m = omega arith

pub reach : (x out : List ℕ) (i j n to p : ℕ) → length x ≡ 5760 → i < 24 → j + n ≤ 240 → p ≡ interleaved i j → to + n ≤ length out → Reaches x out p 8 n to
reach x out i j n to p e h l q r = record { there = λ m k. rw (q, e) (omega arith); room = r }

-- cells that are free, whose bytes come one after the other
pub record Run (w i j n from : ℕ) : Type 0 where
  pub row : i < 24
  pub within : j + n ≤ w
  pub free : (m : ℕ) → m < n → taken i (j + m) ≡ false
  pub next : (m : ℕ) → m < n → index_at w i (j + m) ≡ from + m

fits : {w : ℕ} (W : Wide w) (i j n from : ℕ) → Run w i j n from → from ≤ carried w → from + n ≤ carried w
fits W i j zero from R h = omega arith
fits W i j (suc n) from R h = omega (arith, (held W i (j + n) R.row (omega (arith, R.within)) (R.free n (omega arith))).inside, R.next n (omega arith))

module _ {w : ℕ} (W : Wide w) (x out : List ℕ) (i j n from p : ℕ) (e : length x ≡ 5760) (q : p ≡ interleaved i j) (R : Run w i j n from) (F : Out w x out from) where
  pub run_reach : Reaches x out p 8 n from
  run_reach = reach x out i j n from p e R.row (omega (arith, R.within, W.within)) q (rw F.size (fits W i j n from R F.below))

  byte_at : (m : ℕ) → m < n → get_or x (p + 8 * m) 0 ≡ byte_of w x (from + m)
  byte_at m k =
      let c = held W i (j + m) R.row (omega (arith, R.within)) (R.free m k) in
      ap (λ (a : ℕ). get_or x a 0)
      (rw q (along i j m)
      ∙ ap₂ interleaved (sym c.row ∙ ap (row_of w) (R.next m k)) (sym c.column ∙ ap (column_of w) (R.next m k)))

  pub run_out : (after : List ℕ) (to : ℕ) → after ≡ put out from (stepped x p 8 n) → to ≡ from + n → Out w x after to
  unfolding stepped
  run_out after to a z =
      rw a (filled_run (λ m. get_or x (p + 8 * m) 0) out from (byte_of w x) (carried w) n to F (fits W i j n from R F.below) byte_at z)

-- ---- the runs of an upper row, and the one of another
pub upper_run : (w i b n from to : ℕ) → Wide w → i < 24 → i % 8 < 2 → n ≤ 29 → 30 * b + 1 + n ≤ w → from ≡ index_at w i 1 → to ≡ from + 29 * b → Run w i (30 * b + 1) n to
unfolding index_at
upper_run w i b n from to W h u l k e z =
    let before = i / 8 * superblock w + i % 2 * upper_row w in
    let first : from ≡ before + (1 - 1) - 1 / 30 = e ∙ rw (lt-ltb (i % 8) 2 u) in
    record {
      row = h;
      within = k;
      free = λ m r. not_both (ltb (i % 8) 2) (eqb ((30 * b + 1 + m) % 30) 0) (λ _. ne_eqb ((30 * b + 1 + m) % 30) 0 (omega arith));
      next = λ m r. rw (lt-ltb (i % 8) 2 u) (omega arith);
    }

pub lower_run : (w s k to : ℕ) → Wide w → s < 3 → 2 ≤ k → k < 8 → to ≡ s * superblock w + k * w - 16 → Run w (8 * s + k) 0 w to
unfolding index_at
lower_run w s k to W h l u e =
    let r : (8 * s + k) % 8 ≡ k = omega arith in
    let d : (8 * s + k) / 8 ≡ s = omega arith in
    let two : 2 * w ≤ k * w = mul-le-mul_right w l in
    record {
      row = omega arith;
      within = omega arith;
      free = λ m z. rw (r, le-ltb k 2 l);
      next = λ m z. rw (r, d, le-ltb k 2 l) (omega arith);
    }

pub upper_next : (w s k i to : ℕ) → s < 3 → k < 2 → i ≡ 8 * s + k → to ≡ s * superblock w + k * upper_row w → to ≡ index_at w i 1
unfolding index_at
upper_next w s k i to h l q e =
    let m : i % 8 ≡ k = omega arith in
    let r : i % 2 ≡ k = omega arith in
    let d : i / 8 ≡ s = omega arith in
    rw (m, lt-ltb k 2 l, r, d) (omega arith)

-- ---- the other runs
module _ (x out : List ℕ) (first step n from : ℕ) (f : ℕ → ℕ) (size : ℕ) (F : Filled f 0 size out from) (h : from + n ≤ size) where
  pub run_reaches : ((m : ℕ) → m < n → first + step * m < length x) → Reaches x out first step n from
  run_reaches r = record { there = r; room = rw F.size h }

  pub run_filled : (after : List ℕ) (to : ℕ) → ((m : ℕ) → m < n → get_or x (first + step * m) 0 ≡ f (from + m)) → after ≡ put out from (stepped x first step n) → to ≡ from + n → Filled f 0 size after to
  unfolding stepped
  run_filled after to e a z = rw a (filled_run (λ m. get_or x (first + step * m) 0) out from f size n to F h e z)

pub line_at : (o : List ℕ) (l m : ℕ) → m < 15 → get_or o (16 * l + 1 + 1 * m) 0 ≡ get_or o (sent (15 * l + m)) 0
line_at o l m h = ap (λ (a : ℕ). get_or o a 0) (omega arith)

pub block_at : (x : List ℕ) (first s m : ℕ) → first < 2 → m < 8 → get_or x (1920 * s + first + 240 * m) 0 ≡ block_of first x (8 * s + m)
block_at x first s m h l =
    let d : (8 * s + m) / 8 ≡ s = omega arith in
    let r : (8 * s + m) % 8 ≡ m = omega arith in
    rw (d, r) (ap (λ (a : ℕ). get_or x a 0) (omega arith))

pub check_at : (w : ℕ) (x : List ℕ) (i p m : ℕ) → p ≡ interleaved i w → m < 240 - w → get_or x (p + 8 * m) 0 ≡ check_byte_of w x (i * (240 - w) + m)
check_at w x i p m q l = rw (digits_div i l, digits_mod i l, q) (ap (λ (a : ℕ). get_or x a 0) (along i w m))

pub row_at : (x : List ℕ) (i p : ℕ) → p ≡ interleaved i 0 → (m : ℕ) → m < 240 → get_or x (p + 8 * m) 0 ≡ cell x i m
row_at x i p q m l = rw q (ap (λ (a : ℕ). get_or x a 0) (omega arith))

-- nothing yet
pub begun : (f : ℕ → ℕ) (n : ℕ) (xs : List ℕ) (k : ℕ) → length xs ≡ n → k ≡ 0 → Filled f 0 n xs k
begun f n xs k e z = rw z (filled_none f 0 n xs e)

-- all of them at once
pub each_is : (x out : List ℕ) (first step n : ℕ) (f : ℕ → ℕ) → length out ≡ n → ((m : ℕ) → m < n → get_or x (first + step * m) 0 ≡ f m) → put out 0 (stepped x first step n) ≡ list f n
unfolding stepped
each_is x out first step n f e h =
    let g : ℕ → ℕ = λ m. get_or x (first + step * m) 0 in
    put_all out (list g n) (list_length g n ∙ sym e) ∙ list_same g f n h

-- ---- what the interleaving array holds
pub cell_at : (o : List ℕ) (i j : ℕ) → i < 24 → j < 240 → cell (interleaving_of o) i j ≡ at (array_of o) i j
unfolding interleaving_of place
cell_at o i j h l = list_at (λ p. get_or o (sent p) 0) 0 5760 (interleaved i j) (omega arith) ∙ sym (array_of_at o i j h l)

pub row_is : (o x : List ℕ) (i : ℕ) → i < 24 → x ≡ interleaving_of o → list (cell x i) 240 ≡ array_row o i
unfolding array_row
row_is o x i h e =
    list_same (cell x i) (λ j. get_or o (place i j) 0) 240 (λ j l.
    ap (λ (y : List ℕ). cell y i j) e ∙ cell_at o i j h l ∙ array_of_at o i j h l)

module _ {w : ℕ} (W : Wide w) (o : List ℕ) where
  information_of_lem : list (byte_of w (interleaving_of o)) (carried w) ≡ information_of w (array_of o)
  unfolding information_of
  information_of_lem =
      list_same (byte_of w (interleaving_of o)) (λ n. at (array_of o) (row_of w n) (column_of w n)) (carried w) (λ n h.
      let c = placed W n h in
      cell_at o (row_of w n) (column_of w n) c.row (omega (arith, c.column, W.within)))

  blocks_of_lem : (first : ℕ) → first < 2 → list (block_of first (interleaving_of o)) 24 ≡ blocks_of first (array_of o)
  unfolding blocks_of
  blocks_of_lem first l =
      list_same (block_of first (interleaving_of o)) (λ n. at (array_of o) (n / 8 * 8 + first) (n % 8 * 30)) 24 (λ n h.
      cell_at o (n / 8 * 8 + first) (n % 8 * 30) (omega arith) (omega arith))

  check_of_lem : w < 240 → list (check_byte_of w (interleaving_of o)) (24 * (240 - w)) ≡ check_of w (array_of o)
  unfolding check_of
  check_of_lem l =
      let r = 240 - w in
      let pos : 0 < r = omega arith in
      list_same (check_byte_of w (interleaving_of o)) (λ n. at (array_of o) (n / r) (w + n % r)) (24 * r) (λ n h.
      cell_at o (n / r) (w + n % r) ((div-lt_iff_lt-mul pos).1 h) (omega (arith, mod-lt n pos)))

-- ---- the answer
module _ (fourteen : Bool) (o b m s g h r : List ℕ) where
  abbrev w : ℕ
  w = width_of fourteen

  abbrev p : Parts
  p = lent b m s g h r

  pub refused_length : (n : ℕ) → n ≡ refusal_beside w p o → (n ≡ 0 → ⊥) → Returns fourteen o p p n
  unfolding back_refusal
  refused_length n e f =
      record {
        number = one_of_six w (length o) (length m) (length s) (length g) (length h) (length r) n e f ∙ rw (← e, ne_eqb n 0 f);
        parts = rw (ne_eqb n 0 f);
      }

  pub refused_output : (length o ≡ 6144 → ⊥) → Returns fourteen o p p 1
  unfolding back_refusal parts_refusal
  refused_output h = record { number = rw (ne_eqb (length o) 6144 h); parts = refl }

  pub refused_information : (k : ℕ) → 0 ≡ refusal_beside w p o → k ≡ w → (length b ≡ carried k → ⊥) → Returns fourteen o p p 1
  unfolding back_refusal
  refused_information k e q f = record { number = rw (← e, ne_eqb (length b) (carried w) (rw q at f)); parts = refl }

  -- the lengths, where none is refused
  pub lengths_of : (k : ℕ) → 0 ≡ refusal_beside w p o → get_or (length o ∷ length m ∷ length s ∷ length g ∷ length h ∷ length r ∷ []) k 0 ≡ get_or (6144 ∷ 24 ∷ 24 ∷ 192 ∷ 192 ∷ 24 * (240 - w) ∷ []) k 0
  lengths_of k e = six w (length o) (length m) (length s) (length g) (length h) (length r) k (sym e)

  pub room : (k : ℕ) → 0 ≡ refusal_beside w p o → k ≡ w → Wide k → length b ≡ carried k → Room k b m s r
  room k e q W f =
      record {
        wide = W;
        within = rw q (width_below fourteen);
        information = f;
        management = lengths_of 1 e;
        supervision = lengths_of 2 e;
        check = lengths_of 5 e ∙ ap (λ (v : ℕ). 24 * (240 - v)) (sym q);
      }

  pub returned : (k : ℕ) (x b' m' s' g' h' r' : List ℕ) → 0 ≡ refusal_beside w p o → k ≡ w → length b ≡ carried k → g' ≡ g_bytes_of 0 o → h' ≡ g_bytes_of 16 o → x ≡ interleaving_of o → HandsOut k x b' m' s' r'
      → Returns fourteen o p (lent b' m' s' g' h' r') 0
  unfolding back_refusal parts_of
  returned k x b' m' s' g' h' r' e q f sg si a out =
      let W = wide fourteen in
      record {
        number = rw (← e, eq-eqb (length b) (carried w) (rw q at f));
        parts = λ t.
            record {
              information = (out.information ∙ ap₂ (λ (v : ℕ) (y : List ℕ). list (byte_of v y) (carried v)) q a ∙ information_of_lem W o) t;
              management = (out.management ∙ ap (λ (y : List ℕ). list (block_of 0 y) 24) a ∙ blocks_of_lem W o 0 (lit< tt)) t;
              supervision = (out.supervision ∙ ap (λ (y : List ℕ). list (block_of 1 y) 24) a ∙ blocks_of_lem W o 1 (lit< tt)) t;
              synchronising = sg t;
              signalling = si t;
              check = (out.check ∙ ap₂ (λ (v : ℕ) (y : List ℕ). list (check_byte_of v y) (24 * (240 - v))) q a ∙ check_of_lem W o (width_below fourteen)) t;
            };
      }
