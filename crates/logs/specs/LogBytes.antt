-- Logs at the C boundary, as docs/BOUNDARY.md lays them out: fields one after another, high byte first.
-- Assumes nothing.
use Rattle.std.specs.Prelude.{List, [], ◌∷◌, ◌++◌, ℕ, eqb}
use Rattle.octets.specs.Choice.{pick}
use Rattle.octets.specs.Words.{split, bytes8}
use Rattle.nightlog.specs.declared.Entry.{Entry}
use Rattle.nightlog.specs.Log.{first_bad, log_refusal_of}

-- a log judged, nine bytes: its number, and the bad record for 29
unfoldable pub judged_bytes : List ℕ → List ℕ
judged_bytes l = log_refusal_of l ∷ split bytes8 (pick (eqb (log_refusal_of l) 29) (first_bad l) 0)

-- an entry, eleven bytes: place, kind, code, level
unfoldable pub entry_bytes : Entry → List ℕ
entry_bytes e = split bytes8 e.place ++ (e.kind ∷ e.code ∷ e.level ∷ [])
