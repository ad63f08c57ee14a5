-- A live line from C: what calls of `spindlewren_live` leave in the walk's bytes that `spindlewren_begin` left, while bytes come in pieces; and what C sees there.
-- Assumes nothing.
use Rattle.std.specs.Prelude.{Bool, ◌&&◌, List, [], ◌∷◌, ◌++◌, map, ◌≡◌, ℕ, eqb, leb, ltb, get_or, drop}
use Rattle.octets.specs.Choice.{pick}
use Rattle.octets.specs.Words.{eight_at}
use Rattle.walk.specs.Demand3.{Out, out_since}
use Rattle.walk.specs.ItemValues.{done_kind, kind_of, place_of, number_of}
use Rattle.encoded.specs.AnswerBytes.{encode}
use Rattle.controller.specs.Boundary.{Told}
use Rattle.block.specs.WalkBytes.{item_fct, item_level, state_in}
use Rattle.walks.specs.WalkCalls.{begun_bytes, Limited}
use Rattle.lasting.specs.LiveRuns.{Run}
use Rattle.living.specs.LiveBytes.{live_refusal_of, live_of}

-- the window that is lent: of all the bytes that have come, those from the place in the walk's bytes on
abbrev pub lent_of : List ℕ → List ℕ → List ℕ
lent_of came w = drop (eight_at w 0) came

-- a call of `spindlewren_live` answers r and leaves `left`
abbrev pub Calls : ℕ → List ℕ → List ℕ → List ℕ → ℕ → Type 0
Calls more came w left r = Told 23 (live_refusal_of more w) (live_of (lent_of came w) more w) w left r

-- A LINE FROM C with limit m: `more` is 1, and 0 once the line has ended; `came` are all the bytes that have come, w is what the walk's bytes hold, ws is what each call left in them.
-- `spindlewren_begin` answered 0; then pieces of any length come and calls are made, in any order, and at some time the line may end.
pub data LiveLine (m : ℕ) : ℕ → List ℕ → List ℕ → List (List ℕ) → Type 0 where
  begins : {was w : List ℕ} → Limited m 23 (begun_bytes m) was w 0 → LiveLine m 1 [] w []
  comes : {came w : List ℕ} {ws : List (List ℕ)} → LiveLine m 1 came w ws → (piece : List ℕ) → LiveLine m 1 (came ++ piece) w ws
  ends : {came w : List ℕ} {ws : List (List ℕ)} → LiveLine m 1 came w ws → LiveLine m 0 came w ws
  calls : {more r : ℕ} {came w left : List ℕ} {ws : List (List ℕ)} → LiveLine m more came w ws → Calls more came w left r → LiveLine m more came left (ws ++ (left ∷ []))

-- WHAT C SEES of an item: kind, refusal number, place, FCT and level, twelve bytes
abbrev pub item_bytes : Out → List ℕ
item_bytes x = encode (1 ∷ 1 ∷ 8 ∷ 1 ∷ 1 ∷ []) (kind_of x.item ∷ number_of x.item ∷ place_of x.item ∷ item_fct x.item ∷ item_level x.item ∷ [])

-- a walk's bytes hold an item other than done: a frame, a lost mark or an idle item
abbrev pub holds_item : List ℕ → Bool
holds_item w = ltb (get_or w 11 0) done_kind

-- the items at c or later, of what calls left
unfoldable pub seen_since : ℕ → List (List ℕ) → List (List ℕ)
seen_since c [] = []
seen_since c (w ∷ ws) = pick (holds_item w && leb c (eight_at w 13)) (drop 11 w ∷ seen_since c ws) (seen_since c ws)

-- THE CALLS ARE A RUN of live's step: over the same bytes, with the walk that is in the walk's bytes, and C sees what is handed out
pub record IsRun (m more : ℕ) (came w : List ℕ) (ws : List (List ℕ)) : Type 0 where
  pub outs : List Out
  pub run : Run m (eqb more 1) came (state_in w) outs
  pub seen : (c : ℕ) → seen_since c ws ≡ map item_bytes (out_since c outs)
