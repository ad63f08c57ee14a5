-- Lists of bytes joined and cut.
-- Assumes nothing.
use mathlib.Core.List.{List, [], ◌∷◌, ◌++◌}
use Prim.Native.Nat.{ℕ, zero, suc}
use lib.ListN.{take, drop}
use Rattle.octets.specs.Words.{Octets}

pub append_octets : (xs ys : List ℕ) → Octets xs → Octets ys → Octets (xs ++ ys)
append_octets [] ys o p = p
append_octets (x ∷ xs) ys o p = (o.0, append_octets xs ys o.1 p)

pub take_octets : (k : ℕ) (xs : List ℕ) → Octets xs → Octets (take k xs)
take_octets zero xs o = tt
take_octets (suc k) [] o = tt
take_octets (suc k) (x ∷ xs) o = (o.0, take_octets k xs o.1)

pub drop_octets : (k : ℕ) (xs : List ℕ) → Octets xs → Octets (drop k xs)
drop_octets zero xs o = o
drop_octets (suc k) [] o = tt
drop_octets (suc k) (x ∷ xs) o = drop_octets k xs o.1
