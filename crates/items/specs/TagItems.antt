-- Document 002, clause 5: the tag items of an EDI packet, from its list of bytes p.
-- Assumes nothing.
use Rattle.std.specs.Prelude.{Bool, false, true, not, ◌&&◌, ◌||◌, List, [], ◌∷◌, ℕ, zero, suc, ◌+◌, ◌-◌, ◌/◌, ◌%◌, max, eqb, ltb, leb, length, get_or, take, drop}
use Rattle.octets.specs.Choice.{pick}
use Rattle.octets.specs.Words.{word_at}

-- an item: its name of 4 bytes, its length in bits in 4 bytes, and its value: as many bytes as the length says, or what is left
pub record Item : Type 0 where
  pub name : ℕ
  pub bits : ℕ
  pub value : List ℕ

unfoldable pub item_in : List ℕ → Item
item_in p = record { name = word_at p 0; bits = word_at p 4; value = take (word_at p 4 / 8) (drop 8 p) }

-- one after another, while eight bytes or more are left; n bytes hold no more than n of them
unfoldable pub items_to : ℕ → List ℕ → List Item
items_to zero p = []
items_to (suc n) p = pick (ltb (length p) 8) [] (item_in p ∷ items_to n (drop (8 + word_at p 4 / 8) p))

unfoldable pub items_of : List ℕ → List Item
items_of p = items_to (length p) p

-- ---- names: 0 for "deti", n for "est" and the byte n, 1 to 64, and 65 for every other
unfoldable pub part_of : ℕ → ℕ
part_of name =
    pick (eqb name 0x64657469) 0
    (pick (eqb (name / 256) 0x657374 && (ltb 0 (name % 256) && leb (name % 256) 64)) (name % 256) 65)

abbrev pub is_stream : ℕ → Bool
is_stream part = ltb 0 part && leb part 64

-- ---- refusal 20: an item that is no whole number of bytes, runs past the packet, or is a stream of another length than 24 bits and words of 64
unfoldable pub is_bad : Item → Bool
is_bad i =
    not (eqb (i.bits % 8) 0)
    || (ltb (length i.value) (i.bits / 8)
    || (is_stream (part_of i.name) && (ltb i.bits 24 || not (eqb ((i.bits - 24) % 64) 0))))

unfoldable pub some_bad : List Item → Bool
some_bad [] = false
some_bad (i ∷ is) = is_bad i || some_bad is

-- ---- the values of the items of one name, in the order of the packet, and the first of them
unfoldable pub values_of : ℕ → List Item → List (List ℕ)
values_of part [] = []
values_of part (i ∷ is) = pick (eqb (part_of i.name) part) (i.value ∷ values_of part is) (values_of part is)

unfoldable pub value_of : ℕ → List Item → List ℕ
value_of part is = get_or (values_of part is) 0 []

-- ---- A.2.1: the highest stream number present, 0 for none
unfoldable pub number_by : ℕ → ℕ
number_by part = pick (leb part 64) part 0

unfoldable pub highest_in : List Item → ℕ
highest_in [] = 0
highest_in (i ∷ is) = max (number_by (part_of i.name)) (highest_in is)

-- each of the streams 1 to n is there once
unfoldable pub each_once : List Item → ℕ → Bool
each_once is zero = true
each_once is (suc n) = each_once is n && eqb (length (values_of (suc n) is)) 1
