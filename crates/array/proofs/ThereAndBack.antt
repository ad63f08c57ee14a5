-- Out then back returns every part, and back then out every output array: so none of the 6,144 bytes is lost and none is doubled.
-- Assumes nothing.
use mathlib.Core.Path.{◌≡◌, refl, ap, ap₂, ◌∙◌}
use mathlib.Core.Bool.{Bool, true, false}
use mathlib.Core.List.{List, []}
use Prim.Native.Nat.{ℕ, ◌+◌, ◌-◌, ◌*◌, ◌/◌, ◌%◌, ◌<◌, ◌≤◌}
use native.Mathlib.Nat.{mod-lt, div-add-mod', div-lt_iff_lt-mul, mul-le-mul_right}
use native.Mathlib.Omega.{arith}
use borrow.Author.Tests.{lt-ltb, ltb-true, ltb-false, le-ltb, eqb-true, eqb-false, eq-eqb}
use lib.Arith.{digits_div, digits_mod}
use lib.Dec.{eqb, ltb, lit<}
use lib.ListN.{length, get_or}
use Rattle.octets.specs.Choice.{pick}
use Rattle.octets.proofs.Deciding.{both}
use Rattle.array.specs.Listed.{list}
use Rattle.array.specs.CodingArray.{Wide, carried, Parts, taken, index_at, contents, coding_row, coding_array, at, row_of, column_of, information_of, blocks_of, check_of, filled}
use Rattle.array.specs.OutputArray.{row_at, column_at, output_at, output_of, array_of, g_bytes_of, parts_of}
use Rattle.array.specs.PartLengths.{Sized}
use Rattle.array.proofs.Cells.{placed, held}
use Rattle.array.proofs.Filling.{list_at, list_length, list_same, list_all}
use Rattle.array.proofs.Sending.{Array, received_at, array_of_at, array_back}

-- what stands in a cell
pub array_at : (w : ℕ) (p : Parts) (i j : ℕ) → i < 24 → j < 240 → at (coding_array w p) i j ≡ contents w p i j
unfolding coding_array coding_row
array_at w p i j h l =
    ap (λ (r : List ℕ). get_or r j 0) (list_at (coding_row w p) [] 24 i h) ∙ list_at (contents w p i) 0 240 j l

coding_array_lem : (w : ℕ) (p : Parts) → Array (coding_array w p)
unfolding coding_array coding_row
coding_array_lem w p =
    record {
      rows = list_length (coding_row w p) 24;
      columns = λ i h. ap length (list_at (coding_row w p) [] 24 i h) ∙ list_length (contents w p i) 240;
    }

-- the coding array of what goes out is the coding array
pub output_array : (w : ℕ) (p : Parts) → array_of (output_of w p) ≡ coding_array w p
unfolding output_of
output_array w p = array_back p (coding_array w p) (coding_array_lem w p)

sixteen : (q : ℕ) → q % 16 ≡ 0 → (q % 32 ≡ 0 → ⊥) → (q % 32 ≡ 16 → ⊥) → ⊥
sixteen q e f g = omega arith

-- ---- the contents, sort by sort
module _ (w : ℕ) (p : Parts) (i j : ℕ) where
  free_contents : j < w → taken i j ≡ false → contents w p i j ≡ get_or p.information (index_at w i j) 0xFF
  unfolding contents
  free_contents h f = rw (lt-ltb j w h, f)

  taken_contents : j < w → i % 8 < 2 → j % 30 ≡ 0 → contents w p i j ≡ get_or (pick (eqb (i % 8) 0) p.management p.supervision) (i / 8 * 8 + j / 30) 0
  unfolding contents
  taken_contents h k e = rw (lt-ltb j w h, lt-ltb (i % 8) 2 k, eq-eqb (j % 30) 0 e)

  check_contents : w ≤ j → contents w p i j ≡ get_or p.check (i * (240 - w) + (j - w)) 0
  unfolding contents
  check_contents h = rw (le-ltb j w h)

-- ---- out, then back
module _ {w : ℕ} (W : Wide w) (p : Parts) (S : Sized w p) where
  information_back : information_of w (coding_array w p) ≡ filled w p.information
  unfolding information_of
  information_back =
      let B : ℕ → ℕ = λ n. get_or p.information n 0xFF in
      list_same (λ n. at (coding_array w p) (row_of w n) (column_of w n)) B (carried w) (λ n h.
      let q = placed W n h in
      let i = row_of w n in
      let j = column_of w n in
      array_at w p i j q.row (omega (arith, q.column, W.within))
      ∙ free_contents w p i j q.column q.free
      ∙ ap B q.back)

  -- management in row 0 of a superblock, supervision in row 1
  blocks_back : (first : ℕ) (xs : List ℕ) → first < 2 → pick (eqb first 0) p.management p.supervision ≡ xs → length xs ≡ 24 → blocks_of first (coding_array w p) ≡ xs
  unfolding blocks_of
  blocks_back first xs h e size =
      list_same (λ n. at (coding_array w p) (n / 8 * 8 + first) (n % 8 * 30)) (λ n. get_or xs n 0) 24 (λ n l.
      let i = n / 8 * 8 + first in
      let j = n % 8 * 30 in
      let r : i % 8 ≡ first = digits_mod (n / 8) (omega arith) in
      let d : i / 8 ≡ n / 8 = digits_div (n / 8) (omega arith) in
      let k : n / 8 * 8 + j / 30 ≡ n = omega arith in
      array_at w p i j (omega arith) (omega arith)
      ∙ taken_contents w p i j (omega (arith, W.above)) (omega arith) (omega arith)
      ∙ rw (r, d, k, e))
      ∙ list_all 0 xs 24 size

  check_back : check_of w (coding_array w p) ≡ p.check
  unfolding check_of
  check_back =
      let r = 240 - w in
      list_same (λ n. at (coding_array w p) (n / r) (w + n % r)) (λ n. get_or p.check n 0) (24 * r) (λ n h.
      let pos : 0 < r = omega arith in
      let m : n % r < r = mod-lt n pos in
      let k : w + n % r - w ≡ n % r = omega arith in
      array_at w p (n / r) (w + n % r) ((div-lt_iff_lt-mul pos).1 h) (omega (arith, W.within))
      ∙ check_contents w p (n / r) (w + n % r) (omega arith)
      ∙ rw (k, div-add-mod' n r))
      ∙ list_all 0 p.check (24 * r) S.check

  g_bytes_back : (first : ℕ) (xs : List ℕ) → first < 32 → ((q : ℕ) → q % 32 ≡ first → output_at p (coding_array w p) q ≡ get_or xs (q / 32) 0) → length xs ≡ 192 → g_bytes_of first (output_of w p) ≡ xs
  unfolding g_bytes_of output_of
  g_bytes_back first xs h at_first size =
      let f = output_at p (coding_array w p) in
      list_same (λ n. get_or (list f 6144) (32 * n + first) 0) (λ n. get_or xs n 0) 192 (λ n l.
      let q = 32 * n + first in
      let d : q / 32 ≡ n = omega arith in
      list_at f 0 6144 q (omega arith) ∙ at_first q (omega arith) ∙ ap (λ (k : ℕ). get_or xs k 0) d)
      ∙ list_all 0 xs 192 size

  synchronising_at : (q : ℕ) → q % 32 ≡ 0 → output_at p (coding_array w p) q ≡ get_or p.synchronising (q / 32) 0
  unfolding output_at
  synchronising_at q e = rw (eq-eqb (q % 32) 0 e)

  signalling_at : (q : ℕ) → q % 32 ≡ 16 → output_at p (coding_array w p) q ≡ get_or p.signalling (q / 32) 0
  unfolding output_at
  signalling_at q e = rw (e)

  -- out, then back: every part, and the information with FF behind its last byte
  pub out_back : parts_of w (output_of w p) ≡ record { information = filled w p.information; management = p.management; supervision = p.supervision; synchronising = p.synchronising; signalling = p.signalling; check = p.check }
  unfolding parts_of output_of
  out_back =
      let o = output_of w p in
      let c : array_of o ≡ coding_array w p = output_array w p in
      let b = ap (information_of w) c ∙ information_back in
      let m = ap (blocks_of 0) c ∙ blocks_back 0 p.management (lit< tt) refl S.management in
      let s = ap (blocks_of 1) c ∙ blocks_back 1 p.supervision (lit< tt) refl S.supervision in
      let g = g_bytes_back 0 p.synchronising (lit< tt) synchronising_at S.synchronising in
      let h = g_bytes_back 16 p.signalling (lit< tt) signalling_at S.signalling in
      let r = ap (check_of w) c ∙ check_back in
      λ t. record { information = b t; management = m t; supervision = s t; synchronising = g t; signalling = h t; check = r t }

-- ---- back, then out
module _ {w : ℕ} (W : Wide w) (o : List ℕ) (size : length o ≡ 6144) where
  information_out : (i j : ℕ) → i < 24 → j < w → taken i j ≡ false → get_or (information_of w (array_of o)) (index_at w i j) 0xFF ≡ at (array_of o) i j
  unfolding information_of
  information_out i j h l f =
      let q = held W i j h l f in
      list_at (λ n. at (array_of o) (row_of w n) (column_of w n)) 0xFF (carried w) (index_at w i j) q.inside ∙ ap₂ (at (array_of o)) q.row q.column

  blocks_out : (first i j : ℕ) → i < 24 → j < 240 → i % 8 ≡ first → j % 30 ≡ 0 → get_or (blocks_of first (array_of o)) (i / 8 * 8 + j / 30) 0 ≡ at (array_of o) i j
  unfolding blocks_of
  blocks_out first i j h l e z =
      let n = i / 8 * 8 + j / 30 in
      let k : j / 30 < 8 = omega arith in
      let d : n / 8 ≡ i / 8 = digits_div (i / 8) k in
      let m : n % 8 ≡ j / 30 = digits_mod (i / 8) k in
      list_at (λ n. at (array_of o) (n / 8 * 8 + first) (n % 8 * 30)) 0 24 n (omega arith)
      ∙ ap₂ (at (array_of o)) (rw d (omega arith)) (rw m (omega arith))

  check_out : (i j : ℕ) → i < 24 → j < 240 → w ≤ j → get_or (check_of w (array_of o)) (i * (240 - w) + (j - w)) 0 ≡ at (array_of o) i j
  unfolding check_of
  check_out i j h l m =
      let r = 240 - w in
      let n = i * r + (j - w) in
      let k : j - w < r = omega arith in
      let b : i * r ≤ 23 * r = mul-le-mul_right r (omega arith) in
      list_at (λ n. at (array_of o) (n / r) (w + n % r)) 0 (24 * r) n (omega arith)
      ∙ ap₂ (at (array_of o)) (digits_div i k) (rw (digits_mod i k) (omega arith))

  contents_out : (i j : ℕ) → i < 24 → j < 240 → contents w (parts_of w o) i j ≡ at (array_of o) i j
  unfolding parts_of
  contents_out i j h l = inside (ltb j w) refl
    where
      upper : j < w → i % 8 < 2 → j % 30 ≡ 0 → contents w (parts_of w o) i j ≡ at (array_of o) i j
      upper m k z = taken_contents w (parts_of w o) i j m k z ∙ row (eqb (i % 8) 0) refl
        where
          row : (b : Bool) → eqb (i % 8) 0 ≡ b → get_or (pick b (blocks_of 0 (array_of o)) (blocks_of 1 (array_of o))) (i / 8 * 8 + j / 30) 0 ≡ at (array_of o) i j
          row true e = blocks_out 0 i j h l (eqb-true (i % 8) 0 e) z
          row false e = let f = eqb-false (i % 8) 0 e in blocks_out 1 i j h l (omega arith) z

      cell : j < w → (b : Bool) → taken i j ≡ b → contents w (parts_of w o) i j ≡ at (array_of o) i j
      cell m true e = let q = both (ltb (i % 8) 2) (eqb (j % 30) 0) e in upper m (ltb-true (i % 8) 2 q.0) (eqb-true (j % 30) 0 q.1)
      cell m false e = free_contents w (parts_of w o) i j m e ∙ information_out i j h m e

      inside : (b : Bool) → ltb j w ≡ b → contents w (parts_of w o) i j ≡ at (array_of o) i j
      inside true e = cell (ltb-true j w e) (taken i j) refl
      inside false e = let m = ltb-false j w e in check_contents w (parts_of w o) i j m ∙ check_out i j h l m

  g_bytes_out : (first q : ℕ) → q < 6144 → q % 32 ≡ first → get_or (g_bytes_of first o) (q / 32) 0 ≡ get_or o q 0
  unfolding g_bytes_of
  g_bytes_out first q h e = list_at (λ n. get_or o (32 * n + first) 0) 0 192 (q / 32) (omega arith) ∙ ap (λ (k : ℕ). get_or o k 0) (omega arith)

  byte_out : (q : ℕ) → q < 6144 → output_at (parts_of w o) (coding_array w (parts_of w o)) q ≡ get_or o q 0
  unfolding output_at parts_of
  byte_out q h = go (eqb (q % 32) 0) refl (eqb (q % 32) 16) refl
    where
      c : List (List ℕ)
      c = coding_array w (parts_of w o)

      go : (a : Bool) → eqb (q % 32) 0 ≡ a → (b : Bool) → eqb (q % 32) 16 ≡ b → pick a (get_or (parts_of w o).synchronising (q / 32) 0) (pick b (get_or (parts_of w o).signalling (q / 32) 0) (at c (row_at q) (column_at q))) ≡ get_or o q 0
      go true e b f = g_bytes_out 0 q h (eqb-true (q % 32) 0 e)
      go false e true f = g_bytes_out 16 q h (eqb-true (q % 32) 16 f)
      go false e false f =
          let n = eqb-false (q % 32) 0 e in
          let m = eqb-false (q % 32) 16 f in
          let z : (q % 16 ≡ 0) → ⊥ = λ k. sixteen q k n m in
          let r = received_at q h z in
          array_at w (parts_of w o) (row_at q) (column_at q) r.row r.column
          ∙ contents_out (row_at q) (column_at q) r.row r.column
          ∙ array_of_at o (row_at q) (column_at q) r.row r.column
          ∙ ap (λ (k : ℕ). get_or o k 0) r.back

  -- back, then out: the output array
  pub back_out : output_of w (parts_of w o) ≡ o
  unfolding output_of
  back_out =
      list_same (output_at (parts_of w o) (coding_array w (parts_of w o))) (λ q. get_or o q 0) 6144 byte_out ∙ list_all 0 o 6144 size
