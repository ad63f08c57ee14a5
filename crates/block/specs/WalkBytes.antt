-- A walk's 23 bytes at the C boundary, as docs/BOUNDARY.md lays them out.
-- Assumes nothing.
use Rattle.std.specs.Prelude.{List, [], ◌∷◌, ◌++◌, ℕ, eqb, get_or}
use Rattle.octets.specs.Words.{eight_at}
use Rattle.frame.specs.Answers.{digit}
use Rattle.walk.specs.declared.Item.{Item}
use Rattle.walk.specs.declared.Item.TheVariants.{Frame, Lost, Idle, Done}
use Rattle.walk.specs.declared.State.{State}
use Rattle.walk.specs.ItemValues.{kind_of, place_of, number_of}
use Rattle.encoded.specs.AnswerBytes.{encode}

-- misses, lock and limit of a walk's state, kind and refusal number of what it told last
abbrev pub marks_counts : List ℕ
marks_counts = 1 ∷ 1 ∷ 1 ∷ 1 ∷ 1 ∷ []

abbrev pub marks_values : State → ℕ → ℕ → List ℕ
marks_values s kind number = s.position.misses ∷ digit s.position.lock ∷ s.limit ∷ kind ∷ number ∷ []

-- a walk's 23 bytes: its place, the marks, the place of what it told last, and a frame's FCT and level
unfoldable pub told_bytes : State → ℕ → ℕ → ℕ → ℕ → ℕ → List ℕ
told_bytes s kind number item fct level =
    encode (8 ∷ []) (s.position.place ∷ [])
    ++ encode marks_counts (marks_values s kind number)
    ++ encode (8 ∷ []) (item ∷ [])
    ++ encode (1 ∷ 1 ∷ []) (fct ∷ level ∷ [])

-- FCT and level of a frame, as reading hands them on; 0 of every other item
abbrev pub item_fct : Item → ℕ
item_fct (Frame p h) = h.fct
item_fct (Lost p n) = 0
item_fct (Idle p) = 0
item_fct (Done p) = 0

abbrev pub item_level : Item → ℕ
item_level (Frame p h) = h.level
item_level (Lost p n) = 0
item_level (Idle p) = 0
item_level (Done p) = 0

-- a walk's bytes with an item
unfoldable pub step_bytes : Item → State → List ℕ
step_bytes x s = told_bytes s (kind_of x) (number_of x) (place_of x) (item_fct x) (item_level x)

-- the state in a walk's bytes
unfoldable pub state_in : List ℕ → State
state_in w = record { limit = get_or w 10 0; position = record { place = eight_at w 0; misses = get_or w 8 0; lock = eqb (get_or w 9 0) 1 } }
