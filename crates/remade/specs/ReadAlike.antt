-- Frames that reading hands out alike: the contracts of reading and of its parts, held against each other.
-- Assumes nothing.
use Rattle.std.specs.Prelude.{List, ◌≡◌, ℕ}
use Rattle.std.specs.Borrow.{Bor}
use Rattle.frame.specs.declared.Reading.{Reading}
use Rattle.frame.specs.Rules.{main_part, fic_part, stream_part}
use Rattle.frame.specs.Answers.{Reads, PartAt}

-- the same answer, with every field, and the same table; the same bytes as main stream, as FIC and as stream i, for every i
pub record ReadAlike (f g : List ℕ) : Type 0 where
  pub reading : (r q : Reading) → Reads f r → Reads g q → r ≡ q
  pub main : (s t p q : Bor (List ℕ)) → s.now ≡ f → t.now ≡ g → PartAt s (main_part s.now) p → PartAt t (main_part t.now) q → p.now ≡ q.now
  pub fic : (s t p q : Bor (List ℕ)) → s.now ≡ f → t.now ≡ g → PartAt s (fic_part s.now) p → PartAt t (fic_part t.now) q → p.now ≡ q.now
  pub stream : (i : ℕ) (s t p q : Bor (List ℕ)) → s.now ≡ f → t.now ≡ g → PartAt s (stream_part s.now i) p → PartAt t (stream_part t.now i) q → p.now ≡ q.now
