-- Nothing in this file need be believed: clauses between private functions.
-- Assumes nothing.
use Rattle.std.specs.Prelude.{◌≡◌, ℕ, ◌+◌, ◌*◌, ◌≤◌}
use Rattle.sending.specs.SentGroups.{gr_nb_for}

-- a length that the groups carry, with the output that it needs
pub record Carries (len out : ℕ) : Type 0 where
  pub exact : len ≡ 8 + 6 * gr_nb_for len
  pub most : gr_nb_for len ≤ 255
  pub room : out ≡ 8 * (gr_nb_for len + 2)
