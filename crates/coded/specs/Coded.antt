-- Clauses 8.4.2.1 and 8.4.3.1 of ETS 300 799: R_i are the check bytes of row i's information columns, by the code of clause 8.6.
-- Assumes nothing.
use Rattle.std.specs.Prelude.{List, ℕ, ◌-◌, ◌*◌, ◌/◌, ◌%◌, get_or}
use Rattle.array.specs.Listed.{list}
use Rattle.array.specs.CodingArray.{Parts, contents}
use Rattle.code.specs.Code.{check_bytes}

-- the information columns of row i
unfoldable pub information_row : ℕ → Parts → ℕ → List ℕ
information_row w p i = list (contents w p i) w

-- the check bytes of all 24 rows, row by row
unfoldable pub row_checks : ℕ → Parts → List ℕ
row_checks w p = list (λ n. get_or (check_bytes (240 - w) (information_row w p (n / (240 - w)))) (n % (240 - w)) 0) (24 * (240 - w))

-- the parts, with these in the place of the check bytes
abbrev pub coded : ℕ → Parts → Parts
coded w p =
    record {
      information = p.information;
      management = p.management;
      supervision = p.supervision;
      synchronising = p.synchronising;
      signalling = p.signalling;
      check = row_checks w p;
    }
