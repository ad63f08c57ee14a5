-- Clause 3.4: data is carried high byte first, high bit first. So a word is its fields put together by their widths in bits.
-- Assumes nothing.
use Rattle.std.specs.Prelude.{List, [], ◌∷◌, ℕ, ◌+◌, ◌*◌, ◌/◌, ◌%◌, ◌^◌, ◌<◌, get_or}

abbrev pub total : List ℕ → ℕ
total [] = 0
total (k ∷ ks) = k + total ks

-- the fields of a word, the highest first
abbrev pub split : List ℕ → ℕ → List ℕ
split [] w = []
split (k ∷ ks) w = w / 2 ^ total ks % 2 ^ k ∷ split ks w

-- the word of these fields
abbrev pub join : List ℕ → List ℕ → ℕ
join [] vs = 0
join (k ∷ ks) [] = 0
join (k ∷ ks) (v ∷ vs) = v * 2 ^ total ks + join ks vs

-- each field is within its width
abbrev pub Fit : List ℕ → List ℕ → Type 0
Fit [] [] = Unit {0}
Fit [] (v ∷ vs) = ⊥
Fit (k ∷ ks) [] = ⊥
Fit (k ∷ ks) (v ∷ vs) = (v < 2 ^ k) × Fit ks vs

-- each is a byte
abbrev pub Octets : List ℕ → Type 0
Octets [] = Unit {0}
Octets (b ∷ bs) = (b < 2 ^ 8) × Octets bs

-- two bytes, a word's four, and eight
abbrev pub bytes2 : List ℕ
bytes2 = 8 ∷ 8 ∷ []

abbrev pub bytes4 : List ℕ
bytes4 = 8 ∷ 8 ∷ 8 ∷ 8 ∷ []

abbrev pub bytes8 : List ℕ
bytes8 = 8 ∷ 8 ∷ 8 ∷ 8 ∷ 8 ∷ 8 ∷ 8 ∷ 8 ∷ []

-- the number in the two bytes from p on, the word that begins at byte p, and the number in the eight bytes from p on
abbrev pub two_at : List ℕ → ℕ → ℕ
two_at f p = join bytes2 (get_or f p 0 ∷ get_or f (p + 1) 0 ∷ [])

abbrev pub word_at : List ℕ → ℕ → ℕ
word_at f p = join bytes4 (get_or f p 0 ∷ get_or f (p + 1) 0 ∷ get_or f (p + 2) 0 ∷ get_or f (p + 3) 0 ∷ [])

abbrev pub eight_at : List ℕ → ℕ → ℕ
eight_at f p =
    join bytes8 (get_or f p 0 ∷ get_or f (p + 1) 0 ∷ get_or f (p + 2) 0 ∷ get_or f (p + 3) 0 ∷ get_or f (p + 4) 0 ∷ get_or f (p + 5) 0 ∷ get_or f (p + 6) 0 ∷ get_or f (p + 7) 0 ∷ [])
