-- Rows in runs, lines of the output array, and the way out's answer.
-- Assumes nothing.
use mathlib.Core.Path.{◌≡◌, refl, sym, ap, ap₂, ◌∙◌}
use mathlib.Core.Bool.{Bool, true, false}
use mathlib.Core.List.{List, [], ◌∷◌, ◌++◌}
use Prim.Native.Nat.{ℕ, zero, suc, ◌+◌, ◌-◌, ◌*◌, ◌/◌, ◌%◌, ◌<◌, ◌≤◌}
use native.Mathlib.Nat.{le_of_eq, mul-le-mul, mul-le-mul_right, add-sub_cancel_left}
use native.Mathlib.Omega.{arith}
use borrow.Author.Tests.{lt-ltb, le-ltb, ltb-false, eq-eqb, ne_eqb, eqb-true}
use lib.Dec.{eqb, ltb, lit<, lit≤}
use lib.ListN.{length, get_or, take, drop, replicate, length-drop}
use lib.Seq.{length-take-le, get_or-take, get_or-drop}
use Rattle.octets.specs.Choice.{pick}
use Rattle.octets.specs.Stores.{put}
use Rattle.octets.proofs.Storing.{put_room}
use Rattle.octets.proofs.Deciding.{not_both}
use Rattle.array.specs.Listed.{list}
use Rattle.array.specs.CodingArray.{Wide, superblock, upper_row, width_of, carried, Parts, lent, taken, index_at, at, contents, coding_row, coding_array}
use Rattle.array.specs.OutputArray.{received, row_at, column_at, output_at, output_of}
use Rattle.array.specs.PartLengths.{refusal_beside}
use Rattle.array.proofs.Filling.{Filled, filled_run, list_at, list_eq, list_same, list_all, get_d_any}
use Rattle.array.proofs.PartSizes.{six}
use Rattle.outward.specs.OutClauses.{Free, Held, in_array, beside, output_by, upper_row_at, lower_row_at, Upper, Block, Lower, Columns, interleaved_at, interleaving_by, PutsLine, refusal_for}
use Rattle.outward.specs.WayOut.{out_refusal, Sends}

-- ---- bounds
pub product_le : (a b m n : ℕ) → a ≤ m → b ≤ n → a * b ≤ m * n
product_le a b m n h l = mul-le-mul h l

pub start_le : (w i : ℕ) → w ≤ 240 → i < 24 → i / 8 * (w * 8 - 16) ≤ 2 * 1904
start_le w i h l = product_le (i / 8) (w * 8 - 16) 2 1904 (omega arith) (omega arith)

pub rows_le : (w k : ℕ) → w ≤ 240 → k < 8 → k * w ≤ 7 * 240
rows_le w k h l = product_le k w 7 240 (omega arith) h

pub rows_ge : (w k : ℕ) → 210 < w → 2 ≤ k → 2 * w ≤ k * w
rows_ge w k h l = mul-le-mul_right w l

pub uppers_le : (w i : ℕ) → w ≤ 240 → i % 2 * (w - 8) ≤ 1 * 232
uppers_le w i h = product_le (i % 2) (w - 8) 1 232 (omega arith) (omega arith)

pub free_column : (i j : ℕ) → i % 8 < 2 → taken i j ≡ false → 1 ≤ j
free_column i zero h f = absurd (let e : true ≡ false = (rw (lt-ltb (i % 8) 2 h) at f) in let z : ◌≡◌ {A = ℕ} 0 1 = cc in omega arith)
free_column i (suc j) h f = omega arith

-- ---- a part of a list, put into others
part_list : (x : List ℕ) (a n : ℕ) → a + n ≤ length x → take n (drop a x) ≡ list (λ m. get_or x (a + m) 0) n
part_list x a n h =
    let e : length (take n (drop a x)) ≡ n = length-take-le n (drop a x) (rw length-drop (omega arith)) in
    list_eq (λ m. get_or x (a + m) 0) 0 (take n (drop a x)) (λ k l. get_or-take n (drop a x) k 0 (rw e at l) ∙ get_or-drop a x k 0) ∙ ap (list (λ m. get_or x (a + m) 0)) e

pub part_filled : (f : ℕ → ℕ) (size : ℕ) (x out after bytes : List ℕ) (a n from to : ℕ) → Filled f 0 size out from → a + n ≤ length x → from + n ≤ size → ((m : ℕ) → m < n → get_or x (a + m) 0 ≡ f (from + m))
    → bytes ≡ take (a + n - a) (drop a x) → after ≡ put out from bytes → to ≡ from + n → Filled f 0 size after to
part_filled f size x out after bytes a n from to F h l e q p z =
    let b : bytes ≡ list (λ m. get_or x (a + m) 0) n = q ∙ ap (λ (k : ℕ). take k (drop a x)) (add-sub_cancel_left a n) ∙ part_list x a n h in
    rw (p, b) (filled_run (λ m. get_or x (a + m) 0) out from f size n to F l e z)

pub one_filled : (f : ℕ → ℕ) (size : ℕ) (out after bytes : List ℕ) (from : ℕ) → Filled f 0 size out from → length bytes ≡ 1 → from + 1 ≤ size → get_or bytes 0 0 ≡ f from → after ≡ put out from bytes → Filled f 0 size after (from + 1)
one_filled f size out after bytes from F h l e p =
    let q : bytes ≡ list (λ m. get_or bytes m 0) 1 = sym (list_all 0 bytes 1 h) in
    let z : from ≡ from + 0 = omega arith in
    rw (p ∙ ap (put out from) q)
    (filled_run (λ m. get_or bytes m 0) out from f size 1 (from + 1) F l (λ m k. let o : m ≡ 0 = omega arith in rw o (e ∙ ap f z)) refl)

-- another function with the same values so far
pub filled_same : (f g : ℕ → ℕ) (size : ℕ) (out : List ℕ) (k : ℕ) → Filled f 0 size out k → ((m : ℕ) → m < k → f m ≡ g m) → Filled g 0 size out k
filled_same f g size out k F e = record { below = F.below; size = F.size; holds = λ m h. F.holds m h ∙ e m h }

-- ---- the information, and FF behind it
padding : (n k d : ℕ) → get_or (replicate n d) k d ≡ d
padding zero k d = refl
padding (suc n) zero d = refl
padding (suc n) (suc k) d = padding n k d

drop-padding : (k n d : ℕ) → (m : ℕ) → get_or (drop k (replicate n d)) m d ≡ d
drop-padding k n d m = get_or-drop k (replicate n d) m d ∙ padding n (k + m) d

behind : (b r : List ℕ) (d : ℕ) → ((m : ℕ) → get_or r m d ≡ d) → (n : ℕ) → get_or (b ++ r) n d ≡ get_or b n d
behind [] r d h n = h n
behind (x ∷ b) r d h zero = refl
behind (x ∷ b) r d h (suc n) = behind b r d h n

pub filled_at : (b all : List ℕ) → length b ≤ 5592 → all ≡ put (replicate 5592 255) 0 b → (n : ℕ) → get_or all n 255 ≡ get_or b n 255
filled_at b all h e n =
    ap (λ (l : List ℕ). get_or l n 255) (e ∙ put_room (replicate 5592 255) 0 b (omega arith))
    ∙ behind b (drop (0 + length b) (replicate 5592 255)) 255 (drop-padding (0 + length b) 5592 255) n

-- a row looks at the information by its places alone
pub row_same : (w : ℕ) (b all m s r : List ℕ) (i : ℕ) → ((n : ℕ) → get_or all n 255 ≡ get_or b n 255) → coding_row w (in_array all m s r) i ≡ coding_row w (in_array b m s r) i
unfolding coding_row contents
row_same w b all m s r i e =
    list_same (contents w (in_array all m s r) i) (contents w (in_array b m s r) i) 240 (λ j h.
    ap (λ (x : ℕ). pick (ltb j w) (pick (taken i j) (get_or (pick (eqb (i % 8) 0) m s) (i / 8 * 8 + j / 30) 0) x) (get_or r (i * (240 - w) + (j - w)) 0)) (e (index_at w i j)))

-- ---- a block of an upper row
module _ {w i k n : ℕ} {b m row : List ℕ} (B : Block w i k n b m row) (size : length b ≡ 5592) where
  U : Upper w i m
  U = B.upper

  pub block_free : Free w i (30 * k + 1)
  block_free =
      record {
        wide = U.wide;
        row = U.within_array;
        column = omega (arith, B.some, B.within);
        free = not_both (ltb (i % 8) 2) (eqb ((30 * k + 1) % 30) 0) (λ _. ne_eqb ((30 * k + 1) % 30) 0 (omega arith));
      }

  super_le : i / 8 * superblock w ≤ 2 * superblock w
  super_le = mul-le-mul_right (superblock w) (omega (arith, U.within_array))

  row_le : i % 2 * upper_row w ≤ 1 * upper_row w
  row_le = mul-le-mul_right (upper_row w) (omega arith)

  pub block_fits : (from : ℕ) → from ≡ index_at w i (30 * k + 1) → from + n ≤ 5592
  unfolding index_at
  block_fits from e =
      let q : from ≡ i / 8 * superblock w + i % 2 * upper_row w + (30 * k + 1 - 1) - (30 * k + 1) / 30 = e ∙ rw (lt-ltb (i % 8) 2 U.upper) in
      omega (arith, super_le, row_le, U.wide, U.most, B.most, B.block)

  pub first_at : (j : ℕ) → j < 1 → get_or m (i / 8 * 8 + k + j) 0 ≡ upper_row_at w b m i (30 * k + j)
  unfolding upper_row_at
  first_at j h =
      let e : (30 * k + j) % 30 ≡ 0 = omega arith in
      let d : (30 * k + j) / 30 ≡ k + j = omega arith in
      rw (eq-eqb ((30 * k + j) % 30) 0 e, d) (ap (λ (a : ℕ). get_or m a 0) (omega arith))

  pub byte_at : (from : ℕ) → from ≡ index_at w i (30 * k + 1) → (j : ℕ) → j < n → get_or b (from + j) 0 ≡ upper_row_at w b m i (30 * k + 1 + j)
  unfolding upper_row_at index_at
  byte_at from e j h =
      let q : from ≡ i / 8 * superblock w + i % 2 * upper_row w + (30 * k + 1 - 1) - (30 * k + 1) / 30 = e ∙ rw (lt-ltb (i % 8) 2 U.upper) in
      let o : (30 * k + 1 + j) % 30 ≡ 0 → ⊥ = λ z. omega (arith, B.most) in
      rw (ne_eqb ((30 * k + 1 + j) % 30) 0 o, lt-ltb (i % 8) 2 U.upper)
      (get_d_any b (from + j) 0 255 (omega (arith, block_fits from e, size)) ∙ ap (λ (a : ℕ). get_or b a 255) (omega (arith, B.most)))

pub next_block : (w i k n : ℕ) (b m row : List ℕ) → Upper w i m → k < 8 → 0 < n → n ≤ 29 → 30 * k + 1 + n ≤ w → Filled (upper_row_at w b m i) 0 240 row (30 * k) → Block w i k n b m row
next_block w i k n b m row U h s l q F = record { upper = U; block = h; some = s; most = l; within = q; so_far = F }

-- ---- the other rows
module _ {w i : ℕ} (L : Lower w i) where
  pub lower_free : Free w i 0
  lower_free =
      record {
        wide = L.wide;
        row = L.within_array;
        column = omega (arith, L.wide);
        free = rw (le-ltb (i % 8) 2 L.lower);
      }

  below_super : i / 8 * superblock w ≤ 2 * superblock w
  below_super = mul-le-mul_right (superblock w) (omega (arith, L.within_array))

  rows_of : (2 * w ≤ i % 8 * w) × (i % 8 * w ≤ 7 * w)
  rows_of = (mul-le-mul_right w L.lower, mul-le-mul_right w (omega arith))

  pub lower_fits : (from : ℕ) → from ≡ index_at w i 0 → from + w ≤ 5592
  unfolding index_at
  lower_fits from e =
      let q : from ≡ i / 8 * superblock w + i % 8 * w + 0 - 16 = e ∙ rw (le-ltb (i % 8) 2 L.lower) in
      let r = rows_of in
      omega (arith, below_super, L.wide, L.most)

  pub lower_at : (b : List ℕ) → length b ≡ 5592 → (from : ℕ) → from ≡ index_at w i 0 → (j : ℕ) → j < w → get_or b (from + j) 0 ≡ lower_row_at w b i (0 + j)
  unfolding lower_row_at index_at
  lower_at b size from e j h =
      let q : from ≡ i / 8 * superblock w + i % 8 * w + 0 - 16 = e ∙ rw (le-ltb (i % 8) 2 L.lower) in
      let r = rows_of in
      rw (le-ltb (i % 8) 2 L.lower)
      (get_d_any b (from + j) 0 255 (omega (arith, lower_fits from e, size)) ∙ ap (λ (a : ℕ). get_or b a 255) (omega (arith, L.wide)))

-- ---- contents, row by row
module _ {w i : ℕ} {m s : List ℕ} (C : Columns w i m s) where
  pub upper_of : (x : List ℕ) → i % 8 < 2 → length x ≡ 24 → Upper w i x
  upper_of x h e = record { wide = C.wide; most = C.most; within_array = C.within_array; upper = h; beside = e }

  pub lower_of : 2 ≤ i % 8 → Lower w i
  lower_of h = record { wide = C.wide; most = C.most; within_array = C.within_array; lower = h }

module _ (w i : ℕ) (b m s r : List ℕ) where
  upper_contents : (x : List ℕ) → i % 8 < 2 → pick (eqb (i % 8) 0) m s ≡ x → (j : ℕ) → j < w → upper_row_at w b x i j ≡ contents w (in_array b m s r) i j
  unfolding upper_row_at contents
  upper_contents x u e j h = rw (lt-ltb j w h, lt-ltb (i % 8) 2 u, e)

  pub management_columns : (row : List ℕ) → i % 8 ≡ 0 → Filled (upper_row_at w b m i) 0 240 row w → Filled (contents w (in_array b m s r) i) 0 240 row w
  management_columns row z F = filled_same (upper_row_at w b m i) (contents w (in_array b m s r) i) 240 row w F (upper_contents m (omega arith) (rw z))

  pub supervision_columns : (row : List ℕ) → i % 8 ≡ 1 → Filled (upper_row_at w b s i) 0 240 row w → Filled (contents w (in_array b m s r) i) 0 240 row w
  supervision_columns row z F = filled_same (upper_row_at w b s i) (contents w (in_array b m s r) i) 240 row w F (upper_contents s (omega arith) (rw z))

  lower_contents : 2 ≤ i % 8 → (j : ℕ) → j < w → lower_row_at w b i j ≡ contents w (in_array b m s r) i j
  unfolding lower_row_at contents
  lower_contents z j h = rw (lt-ltb j w h, le-ltb (i % 8) 2 z)

  pub lower_columns : (row : List ℕ) → 2 ≤ i % 8 → Filled (lower_row_at w b i) 0 240 row w → Filled (contents w (in_array b m s r) i) 0 240 row w
  lower_columns row z F = filled_same (lower_row_at w b i) (contents w (in_array b m s r) i) 240 row w F (lower_contents z)

  pub check_at : (j : ℕ) → j < 240 - w → get_or r (i * (240 - w) + j) 0 ≡ contents w (in_array b m s r) i (w + j)
  unfolding contents
  check_at j h = rw (le-ltb (w + j) w (omega arith)) (ap (λ (a : ℕ). get_or r (i * (240 - w) + a) 0) (omega arith))

pub check_fits : (w i : ℕ) → i < 24 → i * (240 - w) + (240 - w) ≤ 24 * (240 - w)
check_fits w i h = let m : (i + 1) * (240 - w) ≤ 24 * (240 - w) = mul-le-mul_right (240 - w) (omega arith) in omega arith

pub columns_of : {w : ℕ} {p : Parts} (i : ℕ) → Held w p → i < 24 → Columns w i p.management p.supervision
columns_of i H h = record { wide = H.wide; most = H.most; within_array = h; management = H.management; supervision = H.supervision }

-- whatever the information is
pub held_any : {w : ℕ} (b all m s r : List ℕ) → Held w (in_array b m s r) → Held w (in_array all m s r)
held_any b all m s r H = record { wide = H.wide; most = H.most; management = H.management; supervision = H.supervision; check = H.check }

-- ---- the interleaving array, column by column
pub column_at_lem : (c : List (List ℕ)) (u k : ℕ) → k < 8 → at c (u / 240 * 8 + k) (u % 240) ≡ interleaved_at c (8 * u + k)
column_at_lem c u k h =
    ap₂ (at c) (let e : u / 240 * 8 + k ≡ (8 * u + k) / 1920 * 8 + (8 * u + k) % 8 = omega arith in e) (let e : u % 240 ≡ (8 * u + k) % 1920 / 8 = omega arith in e)

-- ---- the output array, line by line
pub first_length : (n : ℕ) (l : List ℕ) → n < length l → length (take (n + 1 - n) (drop n l)) ≡ 1
first_length n l k = ap (λ (j : ℕ). length (take j (drop n l))) (add-sub_cancel_left n 1) ∙ length-take-le 1 (drop n l) (rw length-drop (omega arith))

module _ (g h : List ℕ) (c : List (List ℕ)) where
  even_at : (n : ℕ) → get_or g n 0 ≡ output_at (beside g h) c (32 * n)
  unfolding output_at
  even_at n =
      let e : 32 * n % 32 ≡ 0 = omega arith in
      let d : 32 * n / 32 ≡ n = omega arith in
      rw (eq-eqb (32 * n % 32) 0 e, d)

  odd_at : (n : ℕ) → get_or h n 0 ≡ output_at (beside g h) c (32 * n + 16)
  unfolding output_at
  odd_at n =
      let e : (32 * n + 16) % 32 ≡ 16 = omega arith in
      let d : (32 * n + 16) / 32 ≡ n = omega arith in
      rw (e, d)

  between_at : (q p : ℕ) → (q % 16 ≡ 0 → ⊥) → received q ≡ p → interleaved_at c p ≡ output_at (beside g h) c q
  unfolding output_at row_at column_at
  between_at q p f e =
      rw (ne_eqb (q % 32) 0 (λ z. f (omega arith)), ne_eqb (q % 32) 16 (λ z. f (omega arith)), e)

  line_at : (x : List ℕ) (l m : ℕ) → x ≡ interleaving_by c → l < 384 → m < 15 → get_or x (15 * l + m) 0 ≡ output_at (beside g h) c (16 * l + 1 + m)
  unfolding interleaving_by
  line_at x l m e k j =
      ap (λ (y : List ℕ). get_or y (15 * l + m) 0) e
      ∙ list_at (interleaved_at c) 0 5760 (15 * l + m) (omega arith)
      ∙ between_at (16 * l + 1 + m) (15 * l + m) (λ z. omega arith) (omega arith)

  first_is : (n : ℕ) (l : List ℕ) → get_or (take (n + 1 - n) (drop n l)) 0 0 ≡ get_or l n 0
  first_is n l =
      ap (λ (j : ℕ). get_or (take j (drop n l)) 0 0) (add-sub_cancel_left n 1)
      ∙ get_or-take 1 (drop n l) 0 0 (omega arith) ∙ get_or-drop n l 0 0 ∙ ap (λ (j : ℕ). get_or l j 0) (omega arith)

  -- the two lines of 32 bytes
  module _ (x before after : List ℕ) (n : ℕ) (e : x ≡ interleaving_by c) (k : n < 192) where
    pub even_line : PutsLine x (2 * n) (take (n + 1 - n) (drop n g)) before after → Filled (output_at (beside g h) c) 0 6144 before (32 * n) → Filled (output_at (beside g h) c) 0 6144 after (32 * n + 16)
    even_line p F =
        let q : 16 * (2 * n) ≡ 32 * n = omega arith in
        let G = p (output_at (beside g h) c) (rw q F) (first_is n g ∙ even_at n ∙ ap (output_at (beside g h) c) (sym q)) (λ m l. line_at x (2 * n) m e (omega arith) l) in
        rw q at G

    pub odd_line : PutsLine x (2 * n + 1) (take (n + 1 - n) (drop n h)) before after → Filled (output_at (beside g h) c) 0 6144 before (32 * n + 16) → Filled (output_at (beside g h) c) 0 6144 after (32 * (n + 1))
    odd_line p F =
        let q : 16 * (2 * n + 1) ≡ 32 * n + 16 = omega arith in
        let z : 32 * n + 16 + 16 ≡ 32 * (n + 1) = omega arith in
        let G = p (output_at (beside g h) c) (rw q F) (first_is n h ∙ odd_at n ∙ ap (output_at (beside g h) c) (sym q)) (λ m l. line_at x (2 * n + 1) m e (omega arith) l) in
        rw (q, z) at G

-- ---- the answer
pub width_most : (x : Bool) → (211 < width_of x) × (width_of x ≤ 235)
width_most true = (lit< tt, lit≤ tt)
width_most false = (lit< tt, lit≤ tt)

-- a length is refused first
pub length_first : (i w n l : ℕ) → n ≡ l → n ≡ 1 → n ≡ refusal_for i l w
length_first i w n l e q = q ∙ rw (← e, q) refl

passed : (n c b : ℕ) → ◌≡◌ {A = ℕ} 0 (pick (eqb n 0) (pick (ltb c b) 23 0) 1) → (n ≡ 0) × (b ≤ c)
passed n c b e = go (eqb n 0) refl (ltb c b) refl e
  where
    go : (x : Bool) → eqb n 0 ≡ x → (y : Bool) → ltb c b ≡ y → ◌≡◌ {A = ℕ} 0 (pick x (pick y 23 0) 1) → (n ≡ 0) × (b ≤ c)
    go true f true k z = absurd (omega arith)
    go true f false k z = (eqb-true n 0 f, ltb-false c b k)
    go false f y k z = absurd (omega arith)

module _ (fourteen : Bool) (b m s g h r out : List ℕ) where
  abbrev w : ℕ
  w = width_of fourteen

  abbrev p : Parts
  p = lent b m s g h r

  -- what is refused leaves the output as it was
  pub refused : (n : ℕ) → n ≡ refusal_for (length b) (refusal_beside w p out) w → (n ≡ 0 → ⊥) → Sends fourteen p out out n
  unfolding out_refusal
  refused n e f = record { number = e; bytes = rw (ne_eqb n 0 f) }

  -- where the lengths are right, what is wrong is what the variant carries
  pub refused_carried : (n : ℕ) → n ≡ refusal_beside w p out → n ≡ 0 → carried w < length b → Sends fourteen p out out 23
  unfolding out_refusal
  refused_carried n e z f = record { number = rw (← e, z, lt-ltb (carried w) (length b) f); bytes = refl }

  same_array : coding_array w (in_array b m s r) ≡ coding_array w p
  unfolding coding_array coding_row contents
  same_array = refl

  same_output : (c : List (List ℕ)) → output_by (beside g h) c ≡ output_by p c
  unfolding output_by output_at
  same_output c = refl

  -- what is not refused has the lengths of the variant, and no more information than it carries
  accepted : 0 ≡ refusal_for (length b) (refusal_beside w p out) w → (refusal_beside w p out ≡ 0) × (length b ≤ carried w)
  accepted e = passed (refusal_beside w p out) (carried w) (length b) e

  pub sent : (c : List (List ℕ)) (after : List ℕ) → 0 ≡ refusal_for (length b) (refusal_beside w p out) w → c ≡ coding_array w (in_array b m s r) → after ≡ output_by (beside g h) c → Sends fourteen p out after 0
  unfolding out_refusal output_of output_by
  sent c after e q a = record { number = e; bytes = a ∙ same_output c ∙ ap (output_by p) (q ∙ same_array) }

  pub lengths_of : (k : ℕ) → 0 ≡ refusal_for (length b) (refusal_beside w p out) w → get_or (length out ∷ length m ∷ length s ∷ length g ∷ length h ∷ length r ∷ []) k 0 ≡ get_or (6144 ∷ 24 ∷ 24 ∷ 192 ∷ 192 ∷ 24 * (240 - w) ∷ []) k 0
  lengths_of k e = six w (length out) (length m) (length s) (length g) (length h) (length r) k (accepted e).0

  pub most : 0 ≡ refusal_for (length b) (refusal_beside w p out) w → length b ≤ 5592
  most e = omega (arith, (accepted e).1, width_most fourteen)

  pub held : (k : ℕ) → 0 ≡ refusal_for (length b) (refusal_beside w p out) w → k ≡ w → Wide k → Held k (in_array b m s r)
  held k e q W =
      record { wide = W; most = rw q (width_most fourteen); management = lengths_of 1 e; supervision = lengths_of 2 e; check = le_of_eq (sym (lengths_of 5 e ∙ ap (λ (v : ℕ). 24 * (240 - v)) (sym q))) }
