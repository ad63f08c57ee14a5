-- Each information byte has one cell, and each cell that is free for one has one: over the row's information width.
-- Assumes nothing.
use mathlib.Core.Path.{◌≡◌, refl, sym, ap, ◌∙◌}
use mathlib.Core.Bool.{Bool, true, false}
use Prim.Native.Nat.{ℕ, ◌+◌, ◌-◌, ◌*◌, ◌/◌, ◌%◌, ◌<◌, ◌≤◌}
use native.Mathlib.Nat.{mod-lt, div-add-mod', div-lt_iff_lt-mul, le-div_iff_mul-le, mul-le-mul_right, mod-eq_of_lt}
use native.Mathlib.Omega.{arith}
use borrow.Author.Tests.{ltb-true, ltb-false, lt-ltb, le-ltb, eqb-false, ne_eqb}
use lib.Arith.{digits_div, digits_mod}
use lib.Dec.{eqb, ltb, lit<, lit≤}
use Rattle.octets.specs.Choice.{pick}
use Rattle.octets.proofs.Deciding.{not_both}
use Rattle.array.specs.CodingArray.{Wide, superblock, upper_row, carried, width_of, taken, index_at, spread, row_in, column_in, row_of, column_of, HasCell, HasByte}

-- both variants
pub wide : (fourteen : Bool) → Wide (width_of fourteen)
wide true = record { above = lit< tt; within = lit≤ tt }
wide false = record { above = lit< tt; within = lit≤ tt }

pub width_below : (fourteen : Bool) → width_of fourteen < 240
width_below true = lit< tt
width_below false = lit< tt

-- ---- within a superblock: rows 0 to 7, information bytes 0 to superblock w - 1
abbrev in_block : ℕ → ℕ → ℕ → ℕ
in_block w k j = pick (ltb k 2) (k * upper_row w + (j - 1) - j / 30) (k * w + j - 16)

-- a byte's cell
record Cell (w t k j : ℕ) : Type 0 where
  row : k < 8
  column : j < w
  free : taken k j ≡ false
  index : in_block w k j ≡ t

mod-mod_8 : (k : ℕ) → k < 8 → k % 8 ≡ k
mod-mod_8 k h = mod-eq_of_lt h

module _ {w : ℕ} (W : Wide w) where
  upper_row_pos : 0 < upper_row w
  upper_row_pos = omega arith

  superblock_pos : 0 < superblock w
  superblock_pos = omega arith

  -- the first two rows
  upper : (t k u : ℕ) → t ≡ k * upper_row w + u → u < upper_row w → k < 2 → Cell w t k (spread u)
  upper t k u e h l =
      let m = k * upper_row w in
      record {
        row = omega arith;
        column = omega arith;
        free = not_both (ltb (k % 8) 2) (eqb (spread u % 30) 0) (λ _. ne_eqb (spread u % 30) 0 (omega arith));
        index = rw (lt-ltb k 2 l) (omega arith);
      }

  -- the other six
  lower : (t k j : ℕ) → t + 16 ≡ k * w + j → j < w → 2 ≤ k → k < 8 → Cell w t k j
  lower t k j e h l m =
      record {
        row = m;
        column = h;
        free = not_both (ltb (k % 8) 2) (eqb (j % 30) 0) (λ (q : ltb (k % 8) 2 ≡ true). absurd (omega (arith, ltb-true (k % 8) 2 q)));
        index = rw (le-ltb k 2 l) (omega arith);
      }

  cell_in : (t : ℕ) → t < superblock w → Cell w t (row_in w t) (column_in w t)
  cell_in t h = go (ltb t (2 * upper_row w)) refl
    where
      go : (b : Bool) → ltb t (2 * upper_row w) ≡ b → Cell w t (row_in w t) (column_in w t)
      go true e =
          let s = upper_row w in
          rw e (upper t (t / s) (t % s) (sym (div-add-mod' t s)) (mod-lt t upper_row_pos) ((div-lt_iff_lt-mul upper_row_pos).1 (ltb-true t (2 * s) e)))
      go false e =
          let l = ltb-false t (2 * upper_row w) e in
          let p : 0 < w = omega arith in
          rw e (lower t ((t + 16) / w) ((t + 16) % w) (sym (div-add-mod' (t + 16) w)) (mod-lt (t + 16) p) ((le-div_iff_mul-le p).1 (omega arith)) ((div-lt_iff_lt-mul p).1 (omega arith)))

  -- a free cell's byte, and back
  record Byte (k j t : ℕ) : Type 0 where
    inside : t < superblock w
    row : row_in w t ≡ k
    column : column_in w t ≡ j

  byte_upper : (k j : ℕ) → k < 2 → j < w → (j % 30 ≡ 0 → ⊥) → Byte k j (k * upper_row w + (j - 1) - j / 30)
  byte_upper k j h l f =
      let s = upper_row w in
      let u = j - 1 - j / 30 in
      let z : u < s = omega arith in
      let t : k * s + (j - 1) - j / 30 ≡ k * s + u = omega arith in
      let two : k * s ≤ 1 * s = mul-le-mul_right s (omega arith) in
      let b : ltb (k * s + u) (2 * s) ≡ true = lt-ltb (k * s + u) (2 * s) (omega arith) in
      record {
        inside = omega arith;
        row = rw (t, b) (digits_div k z);
        column = rw (t, b, digits_mod k z) (omega arith);
      }

  byte_lower : (k j : ℕ) → 2 ≤ k → k < 8 → j < w → Byte k j (k * w + j - 16)
  byte_lower k j h l m =
      let s = upper_row w in
      let two : 2 * w ≤ k * w = mul-le-mul_right w h in
      let seven : k * w ≤ 7 * w = mul-le-mul_right w (omega arith) in
      let b : ltb (k * w + j - 16) (2 * s) ≡ false = le-ltb (k * w + j - 16) (2 * s) (omega arith) in
      let t : k * w + j - 16 + 16 ≡ k * w + j = omega arith in
      record {
        inside = omega arith;
        row = rw (b, t) (digits_div k m);
        column = rw (b, t) (digits_mod k m);
      }

  byte_in : (k j : ℕ) → k < 8 → j < w → taken k j ≡ false → Byte k j (in_block w k j)
  byte_in k j h l f = go (ltb k 2) refl
    where
      go : (b : Bool) → ltb k 2 ≡ b → Byte k j (in_block w k j)
      go true e =
          let m = ltb-true k 2 e in
          let q : k % 8 ≡ k = omega arith in
          let g : eqb (j % 30) 0 ≡ false = (rw (q, e) at f) in
          rw e (byte_upper k j m l (eqb-false (j % 30) 0 g))
      go false e = rw e (byte_lower k j (ltb-false k 2 e) h l)

  -- ---- the whole array: three superblocks
  split : (i j : ℕ) → i < 24 → index_at w i j ≡ i / 8 * superblock w + in_block w (i % 8) j
  unfolding index_at
  split i j h = go (ltb (i % 8) 2) refl
    where
      go : (b : Bool) → ltb (i % 8) 2 ≡ b → pick (ltb (i % 8) 2) (i / 8 * superblock w + i % 2 * upper_row w + (j - 1) - j / 30) (i / 8 * superblock w + i % 8 * w + j - 16) ≡ i / 8 * superblock w + in_block w (i % 8) j
      go true e =
          let m = ltb-true (i % 8) 2 e in
          let q : i % 2 ≡ i % 8 = omega arith in
          rw (e, q) (omega arith)
      go false e =
          let m = mul-le-mul_right w (ltb-false (i % 8) 2 e) in
          rw e (omega arith)

  -- each information byte has a cell
  pub placed : (n : ℕ) → n < carried w → HasCell w n
  unfolding row_of column_of
  placed n h =
      let b = superblock w in
      let s = n / b in
      let t = n % b in
      let c = cell_in t (mod-lt n superblock_pos) in
      let k = row_in w t in
      let j = column_in w t in
      let z : s < 3 = (div-lt_iff_lt-mul superblock_pos).1 h in
      let q : (s * 8 + k) / 8 ≡ s = digits_div s c.row in
      let r : (s * 8 + k) % 8 ≡ k = digits_mod s c.row in
      let m : s * 8 + k < 24 = omega (arith, c.row) in
      record {
        row = m;
        column = c.column;
        free = rw r (rw (mod-mod_8 k c.row) at c.free);
        back = split (s * 8 + k) j m ∙ rw (q, r) (ap (λ (x : ℕ). s * b + x) c.index ∙ div-add-mod' n b);
      }

  -- each free cell has an information byte
  pub held : (i j : ℕ) → i < 24 → j < w → taken i j ≡ false → HasByte w i j
  unfolding row_of column_of
  held i j h l f =
      let b = superblock w in
      let s = i / 8 in
      let k = i % 8 in
      let m : k < 8 = mod-lt i (lit< tt) in
      let c = byte_in k j m l (rw (mod-mod_8 k m) f) in
      let t = in_block w k j in
      let e : index_at w i j ≡ s * b + t = split i j h in
      let q : (s * b + t) / b ≡ s = digits_div s c.inside in
      let r : (s * b + t) % b ≡ t = digits_mod s c.inside in
      let two : s * b ≤ 2 * b = mul-le-mul_right b (omega arith) in
      record {
        inside = rw e (omega (arith, c.inside));
        row = rw (e, q, r, c.row) (omega arith);
        column = rw (e, r) c.column;
      }
