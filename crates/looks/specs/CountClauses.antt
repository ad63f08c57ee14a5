-- Nothing in this file need be believed: clauses between private functions.
-- Assumes nothing.
use Rattle.std.specs.Prelude.{ℕ, ◌+◌, ◌<◌, ◌≡◌, true, List}
use Rattle.walk.specs.declared.Position.{Position}
use Rattle.walk.specs.Records.{judged}
use Rattle.looks.specs.declared.Tally.{Tally}
use Rattle.looks.specs.Testing.{tests_from}

abbrev pub tally : ℕ → Position → Tally
tally n s = record { tests = n; position = s }

-- from s the walk goes on to r's position, and r's tests are put on the way
pub record Counts (limit : ℕ) (bytes : List ℕ) (s : Position) (r : Tally) : Type 0 where
  pub same : tests_from (judged limit bytes) s ≡ r.tests + tests_from (judged limit bytes) r.position
  pub moves : s.place < r.position.place
  pub fresh : r.position.lock ≡ true → r.position.misses < limit
