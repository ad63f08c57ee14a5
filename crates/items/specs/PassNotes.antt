-- What one pass over a packet notes: for each name, how often its item was met, and, of one that was met once, where its value lies.
-- Assumes nothing.
use Rattle.std.specs.Prelude.{Bool, false, true, not, ◌&&◌, ◌||◌, List, [], ◌∷◌, ◌≡◌, ℕ, ◌+◌, ◌-◌, ◌/◌, ◌%◌, ◌≤◌, ◌<◌, eqb, ltb, length, get_or, take, drop, Result, Ok, Err}
use Rattle.frame.specs.declared.Span.{Span}
use Rattle.refusals.specs.declared.Refusal.{Refusal}
use Rattle.refusals.specs.declared.Refusal.TheVariants.{BadItem}
use Rattle.items.specs.declared.Seen.{Seen}
use Rattle.items.specs.declared.Met.{Met}
use Rattle.items.specs.declared.Met.TheVariants.{Never, Once, Several}
use Rattle.items.specs.declared.Notes.{Notes}
use Rattle.items.specs.TagItems.{Item, item_in, items_of, part_of, is_stream, is_bad, some_bad, values_of, value_of, highest_in}

-- none, one, or several
abbrev pub tally_of : List (List ℕ) → ℕ
tally_of [] = 0
tally_of (v ∷ []) = 1
tally_of (v ∷ w ∷ vs) = 2

-- what a note says: how often, and where the value of one met once lies
abbrev pub tally_by : Met → ℕ
tally_by Never = 0
tally_by (Once s) = 1
tally_by Several = 2

abbrev pub span_of : Met → Span
span_of Never = record { start = 0; len = 0 }
span_of (Once s) = s
span_of Several = record { start = 0; len = 0 }

-- once more, with the value there
abbrev pub met_again : Met → Span → Met
met_again Never s = Once s
met_again (Once r) s = Several
met_again Several s = Several

-- what makes an item bad, of numbers alone: its bits, the bytes left behind its length, its part
unfoldable pub bad_by : ℕ → ℕ → ℕ → Bool
bad_by bits left part =
    not (eqb (bits % 8) 0)
    || (ltb left (bits / 8) || (is_stream part && (ltb bits 24 || not (eqb ((bits - 24) % 64) 0))))

-- a look at the item at the head of q
pub record Shows (q : List ℕ) (s : Seen) : Type 0 where
  pub part : s.part ≡ part_of (item_in q).name
  pub small : s.part ≤ 65
  pub len : s.len ≡ (item_in q).bits / 8
  pub sound : is_bad (item_in q) ≡ false

abbrev pub LooksAt : List ℕ → Result Seen Refusal → Type 0
LooksAt q (Ok s) = Shows q s
LooksAt q (Err r) = (r ≡ BadItem) × (is_bad (item_in q) ≡ true)

-- what is noted of a name's values in p: how many there are; if it is one, the value's place and length
pub record Holds (p : List ℕ) (vs : List (List ℕ)) (m : Met) : Type 0 where
  pub tallied : tally_by m ≡ tally_of vs
  pub inside : (span_of m).start + (span_of m).len ≤ length p
  pub one : tally_by m ≡ 1 → vs ≡ take (span_of m).len (drop (span_of m).start p) ∷ []

pub record Noted (p : List ℕ) (is : List Item) (met : List Met) : Type 0 where
  pub whole : length met ≡ 66
  pub each : (k : ℕ) → k < 66 → Holds p (values_of k is) (get_or met k Never)

-- a value's place and length, and those of all that stand once
pub record ValueAt (p v : List ℕ) (s : Span) : Type 0 where
  pub inside : s.start + s.len ≤ length p
  pub value : take s.len (drop s.start p) ≡ v

abbrev pub Placed : List ℕ → List Item → List Met → Type 0
Placed p is met = (k : ℕ) → k < 66 → length (values_of k is) ≡ 1 → ValueAt p (value_of k is) (span_of (get_or met k Never))

-- the whole pass: notes and highest number are those of the items, or some item is bad
pub record Finds (p : List ℕ) (n : Notes) : Type 0 where
  pub sound : some_bad (items_of p) ≡ false
  pub noted : Noted p (items_of p) n.met
  pub high : n.highest ≡ highest_in (items_of p)

abbrev pub Passed : List ℕ → Result Notes Refusal → Type 0
Passed p (Ok n) = Finds p n
Passed p (Err r) = (r ≡ BadItem) × (some_bad (items_of p) ≡ true)
