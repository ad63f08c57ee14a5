-- Nothing in this file need be believed: clauses between private functions.
-- Assumes nothing.
use Rattle.std.specs.Prelude.{List, ℕ, ◌%◌, get_or}

-- the entry of a table of 255 that goes round
unfoldable pub entry_of : List ℕ → ℕ → ℕ
entry_of table n = get_or table (n % 255) 0
