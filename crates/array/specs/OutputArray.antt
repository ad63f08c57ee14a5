-- Clauses 8.4.2.2, 8.4.2.3 and 8.4.3.2, 8.4.3.3 of ETS 300 799: interleaving and the output array O of 6,144 bytes.
-- Assumes nothing.
use Rattle.std.specs.Prelude.{List, ◌≡◌, ℕ, ◌+◌, ◌-◌, ◌*◌, ◌/◌, ◌%◌, ◌<◌, eqb, get_or}
use Rattle.octets.specs.Choice.{pick}
use Rattle.array.specs.Listed.{list}
use Rattle.array.specs.CodingArray.{Parts, at, coding_array, information_of, blocks_of, check_of}

-- the index p of C_i,j in the interleaving array I
abbrev pub interleaved : ℕ → ℕ → ℕ
interleaved i j = 1920 * (i / 8) + 8 * j + i % 8

-- the index q of I_p in the output array
abbrev pub sent : ℕ → ℕ
sent p = p + p / 15 + 1

unfoldable pub place : ℕ → ℕ → ℕ
place i j = sent (interleaved i j)

-- and back: p of q, where q is not 0 or 16 modulo 32, and the row and the column of p
abbrev pub received : ℕ → ℕ
received q = q - q / 16 - 1

unfoldable pub row_at : ℕ → ℕ
row_at q = received q / 1920 * 8 + received q % 8

unfoldable pub column_at : ℕ → ℕ
column_at q = received q % 1920 / 8

-- O_q: a synchronising byte, a signalling byte, or the array's
unfoldable pub output_at : Parts → List (List ℕ) → ℕ → ℕ
output_at p c q =
    pick (eqb (q % 32) 0) (get_or p.synchronising (q / 32) 0)
    (pick (eqb (q % 32) 16) (get_or p.signalling (q / 32) 0)
    (at c (row_at q) (column_at q)))

-- THE WAY OUT: the output array of these parts
unfoldable pub output_of : ℕ → Parts → List ℕ
output_of w p = list (output_at p (coding_array w p)) 6144

-- the coding array of an output array
unfoldable pub array_row : List ℕ → ℕ → List ℕ
array_row o i = list (λ j. get_or o (place i j) 0) 240

unfoldable pub array_of : List ℕ → List (List ℕ)
array_of o = list (array_row o) 24

-- the bytes of G.704: at 32 n the synchronising ones, at 32 n + 16 the signalling ones
unfoldable pub g_bytes_of : ℕ → List ℕ → List ℕ
g_bytes_of first o = list (λ n. get_or o (32 * n + first) 0) 192

-- THE WAY BACK: the parts of an output array
unfoldable pub parts_of : ℕ → List ℕ → Parts
parts_of w o =
    record {
      information = information_of w (array_of o);
      management = blocks_of 0 (array_of o);
      supervision = blocks_of 1 (array_of o);
      synchronising = g_bytes_of 0 o;
      signalling = g_bytes_of 16 o;
      check = check_of w (array_of o);
    }

-- cell i, j has a place of its own in the output array, between the bytes of G.704, and comes back from it
pub record Sent (i j : ℕ) : Type 0 where
  pub inside : place i j < 6144
  pub between : (place i j % 16 ≡ 0) → ⊥
  pub row : row_at (place i j) ≡ i
  pub column : column_at (place i j) ≡ j

-- place q of the output array has a cell, whose place it is
pub record Received (q : ℕ) : Type 0 where
  pub row : row_at q < 24
  pub column : column_at q < 240
  pub back : place (row_at q) (column_at q) ≡ q
