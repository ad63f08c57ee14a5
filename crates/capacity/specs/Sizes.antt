-- The size of a sub-channel in capacity units, clause 5.4.1.3 and the tables of EN 300 401; 0: no size.
-- Assumes nothing.
use Rattle.std.specs.Prelude.{List, [], ◌∷◌, ℕ, ◌+◌, ◌-◌, ◌*◌, ◌/◌, ◌%◌, eqb, ltb, leb, get_or}
use Rattle.octets.specs.Choice.{pick, place_in}

-- ---- unequal protection: the rates in kbit/s, and for each the sizes at levels 5, 4, 3, 2, 1, 0 for a dash
abbrev pub rates : List ℕ
rates = 32 ∷ 48 ∷ 56 ∷ 64 ∷ 80 ∷ 96 ∷ 112 ∷ 128 ∷ 160 ∷ 192 ∷ 224 ∷ 256 ∷ 320 ∷ 384 ∷ []

-- the STLs of these rates: rate = STL * 8 / 3
abbrev pub stls : List ℕ
stls = 12 ∷ 18 ∷ 21 ∷ 24 ∷ 30 ∷ 36 ∷ 42 ∷ 48 ∷ 60 ∷ 72 ∷ 84 ∷ 96 ∷ 120 ∷ 144 ∷ []

unfoldable pub unequal_sizes : List ℕ
unequal_sizes =
    16 ∷ 21 ∷ 24 ∷ 29 ∷ 35
    ∷ 24 ∷ 29 ∷ 35 ∷ 42 ∷ 52
    ∷ 29 ∷ 35 ∷ 42 ∷ 52 ∷ 0
    ∷ 32 ∷ 42 ∷ 48 ∷ 58 ∷ 70
    ∷ 40 ∷ 52 ∷ 58 ∷ 70 ∷ 84
    ∷ 48 ∷ 58 ∷ 70 ∷ 84 ∷ 104
    ∷ 58 ∷ 70 ∷ 84 ∷ 104 ∷ 0
    ∷ 64 ∷ 84 ∷ 96 ∷ 116 ∷ 140
    ∷ 80 ∷ 104 ∷ 116 ∷ 140 ∷ 168
    ∷ 96 ∷ 116 ∷ 140 ∷ 168 ∷ 208
    ∷ 116 ∷ 140 ∷ 168 ∷ 208 ∷ 232
    ∷ 128 ∷ 168 ∷ 192 ∷ 232 ∷ 280
    ∷ 160 ∷ 208 ∷ 0 ∷ 280 ∷ 0
    ∷ 192 ∷ 0 ∷ 280 ∷ 0 ∷ 416
    ∷ []

-- the index of TPL is the level less one; another STL and another index have no size
unfoldable pub unequal_size : ℕ → ℕ → ℕ
unequal_size index stl = pick (leb index 4) (get_or unequal_sizes (5 * place_in stls stl + (4 - index)) 0) 0

-- ---- equal protection: so many units for each n, where STL is n times a unit; at levels 1, 2, 3, 4
abbrev pub per_n : ℕ → ℕ → ℕ → ℕ
per_n unit each stl = pick (eqb (stl % unit) 0) (stl / unit * each) 0

-- option A: 8 n kbit/s, STL 3 n
abbrev pub equal_a : List ℕ
equal_a = 12 ∷ 8 ∷ 6 ∷ 4 ∷ []

-- option B: 32 n kbit/s, STL 12 n
abbrev pub equal_b : List ℕ
equal_b = 27 ∷ 21 ∷ 18 ∷ 15 ∷ []

-- option 0 is A, 1 is B
unfoldable pub equal_size : ℕ → ℕ → ℕ → ℕ
equal_size option index stl =
    pick (eqb option 0) (per_n 3 (get_or equal_a index 0) stl) (pick (eqb option 1) (per_n 12 (get_or equal_b index 0) stl) 0)

-- ---- TPL, table 6. First bit 0: a reserved bit, the table switch, an index of 3 bits. First bit 1: an option of 3 bits, an index of 2
unfoldable pub size_by : ℕ → ℕ → ℕ
size_by tpl stl =
    pick (eqb (tpl / 32 % 2) 0)
    (pick (eqb (tpl / 8 % 2) 0) (unequal_size (tpl % 8) stl) 0)
    (equal_size (tpl / 4 % 8) (tpl % 4) stl)

-- what a stream takes: none with STL 0
unfoldable pub units_by : ℕ → ℕ → ℕ
units_by tpl stl = pick (eqb stl 0) 0 (size_by tpl stl)

-- the same from the half of a stream's word that has TPL and STL, 10 bits; and for equal protection alone, first bit 1
abbrev pub units_in : ℕ → ℕ
units_in half = units_by (half / 1024) (half % 1024)

unfoldable pub equal_in : ℕ → ℕ
equal_in half = pick (ltb half 32768) 0 (units_in half)
