-- Clauses 8.4.2.1 and 8.4.3.1 of ETS 300 799: what stands where in the coding array C of 24 rows by 240 columns, over the row's information width w,
-- 235 for the variant of 5,592 information bytes and 226 for that of 5,376.
-- Assumes nothing.
use Rattle.std.specs.Prelude.{Bool, false, ◌&&◌, List, [], ◌≡◌, ℕ, ◌+◌, ◌-◌, ◌*◌, ◌/◌, ◌%◌, ◌<◌, ◌≤◌, eqb, ltb, get_or}
use Rattle.octets.specs.Choice.{pick}
use Rattle.array.specs.Listed.{list}

-- the variant with fourteen check bytes to a row, or that with five
abbrev pub width_of : Bool → ℕ
width_of fourteen = pick fourteen 226 235

-- all that is asked of a width: the columns 0, 30, .., 210 lie in it, and it ends in the row
pub record Wide (w : ℕ) : Type 0 where
  pub above : 210 < w
  pub within : w ≤ 240

-- information bytes of a superblock, eight rows less eight management and eight supervision bytes: 1,864 or 1,792
abbrev pub superblock : ℕ → ℕ
superblock w = w * 8 - 16

-- of each of its first two rows: 227 or 218
abbrev pub upper_row : ℕ → ℕ
upper_row w = w - 8

-- of the array: 5,592 or 5,376
abbrev pub carried : ℕ → ℕ
carried w = 3 * superblock w

-- what goes into an array: bytes B of the logical frame, M, S, and the check bytes R, row by row; and the G.704 bytes of the output array, G0 and G1
pub record Parts : Type 0 where
  pub information : List ℕ
  pub management : List ℕ
  pub supervision : List ℕ
  pub synchronising : List ℕ
  pub signalling : List ℕ
  pub check : List ℕ

-- the parts, in the order in which they are lent
abbrev pub lent : List ℕ → List ℕ → List ℕ → List ℕ → List ℕ → List ℕ → Parts
lent b m s g h r =
    record { information = b; management = m; supervision = s; synchronising = g; signalling = h; check = r }

-- a cell of the first two rows of a superblock in a column 0, 30, .. has a management or a supervision byte
abbrev pub taken : ℕ → ℕ → Bool
taken i j = ltb (i % 8) 2 && eqb (j % 30) 0

-- r of B_r in the first two rows of a superblock, s of B_s in the others
unfoldable pub index_at : ℕ → ℕ → ℕ → ℕ
index_at w i j =
    pick (ltb (i % 8) 2)
    (i / 8 * superblock w + i % 2 * upper_row w + (j - 1) - j / 30)
    (i / 8 * superblock w + i % 8 * w + j - 16)

-- C_i,j. Management and supervision stand by superblock, then block. Information is FF behind its last byte
unfoldable pub contents : ℕ → Parts → ℕ → ℕ → ℕ
contents w p i j =
    pick (ltb j w)
    (pick (taken i j)
    (get_or (pick (eqb (i % 8) 0) p.management p.supervision) (i / 8 * 8 + j / 30) 0)
    (get_or p.information (index_at w i j) 0xFF))
    (get_or p.check (i * (240 - w) + (j - w)) 0)

unfoldable pub coding_row : ℕ → Parts → ℕ → List ℕ
coding_row w p i = list (contents w p i) 240

unfoldable pub coding_array : ℕ → Parts → List (List ℕ)
coding_array w p = list (coding_row w p) 24

-- ---- and back
abbrev pub at : List (List ℕ) → ℕ → ℕ → ℕ
at c i j = get_or (get_or c i []) j 0

-- the column of byte u of a first or second row: the columns 0, 30, .. are left out
abbrev pub spread : ℕ → ℕ
spread u = u + u / 29 + 1

-- the row and the column of byte t of a superblock
abbrev pub row_in : ℕ → ℕ → ℕ
row_in w t = pick (ltb t (2 * upper_row w)) (t / upper_row w) ((t + 16) / w)

abbrev pub column_in : ℕ → ℕ → ℕ
column_in w t = pick (ltb t (2 * upper_row w)) (spread (t % upper_row w)) ((t + 16) % w)

-- the row and the column of information byte n
unfoldable pub row_of : ℕ → ℕ → ℕ
row_of w n = n / superblock w * 8 + row_in w (n % superblock w)

unfoldable pub column_of : ℕ → ℕ → ℕ
column_of w n = column_in w (n % superblock w)

unfoldable pub information_of : ℕ → List (List ℕ) → List ℕ
information_of w c = list (λ n. at c (row_of w n) (column_of w n)) (carried w)

-- the bytes of row `first` of each superblock in the columns 0, 30, .., 210: management in the first row, supervision in the second
unfoldable pub blocks_of : ℕ → List (List ℕ) → List ℕ
blocks_of first c = list (λ n. at c (n / 8 * 8 + first) (n % 8 * 30)) 24

unfoldable pub check_of : ℕ → List (List ℕ) → List ℕ
check_of w c = list (λ n. at c (n / (240 - w)) (w + n % (240 - w))) (24 * (240 - w))

-- what comes back of the information: all that the variant carries, FF behind its last byte
abbrev pub filled : ℕ → List ℕ → List ℕ
filled w information = list (λ n. get_or information n 0xFF) (carried w)

-- information byte n has a cell of its own, free for it, and is the byte of that cell
pub record HasCell (w n : ℕ) : Type 0 where
  pub row : row_of w n < 24
  pub column : column_of w n < w
  pub free : taken (row_of w n) (column_of w n) ≡ false
  pub back : index_at w (row_of w n) (column_of w n) ≡ n

-- cell i, j has an information byte, whose cell it is
pub record HasByte (w i j : ℕ) : Type 0 where
  pub inside : index_at w i j < carried w
  pub row : row_of w (index_at w i j) ≡ i
  pub column : column_of w (index_at w i j) ≡ j
