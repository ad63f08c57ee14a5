-- A night's log from C: what each call of `spindlewren_step` or `spindlewren_live` left, unless it is done or wants more bytes, is handed to `spindlewren_log_write` as docs/BOUNDARY.md says.
-- Assumes nothing.
use Rattle.std.specs.Prelude.{List, map, ℕ, eqb, get_or}
use Rattle.octets.specs.Choice.{pick}
use Rattle.octets.specs.Words.{eight_at}
use Rattle.walk.specs.ItemValues.{frame_kind}
use Rattle.nightlog.specs.declared.Entry.{Entry}
use Rattle.calls.specs.LiveCalls.{seen_since}

-- the entry in what C sees of an item, the walk's bytes from KIND on: its place is ITEM, its kind KIND; of a frame the code is ITEM_FCT and the level ITEM_LEVEL, of the others NUMBER and FF
unfoldable pub entry_in : List ℕ → Entry
entry_in v =
    record {
      place = eight_at v 2;
      kind = get_or v 0 0;
      code = pick (eqb (get_or v 0 0) frame_kind) (get_or v 10 0) (get_or v 1 0);
      level = pick (eqb (get_or v 0 0) frame_kind) (get_or v 11 0) 0xFF;
    }

-- the entries in what calls left, one after another
abbrev pub entries_in : List (List ℕ) → List Entry
entries_in ws = map entry_in (seen_since 0 ws)
