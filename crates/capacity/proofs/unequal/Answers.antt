-- `capacity::unequal` meets its contract.
-- Assumes nothing.
use Rattle.std.proofs.Common.{rules, ◌∙◌, ◌+◌, ◌*◌, ◌-◌, ℕ, ap, get_or, arith}
use Rattle.capacity.specs.Sizes.{unequal_sizes}
use Rattle.capacity.proofs.SizeLaws.{unequal_absent, unequal_found}
use Rattle.capacity.proofs.unequal.Goals as goal

pub returns-in-Some : goal.returns-in-Some
returns-in-Some c = (
  unequal_found c.args.index c.args.stl (omega arith) c.in-Some.row _ c.in-Some.ensures
      (c.from-in-Some.ensures ∙ c.listed.ensures.0 ∙ ap (λ (n : ℕ). get_or unequal_sizes (5 * c.in-Some.row + (4 - n)) 0) c.from.ensures),
  rw c.from-in-Some.ensures c.listed.ensures.1,
)

pub returns-in-None : goal.returns-in-None
returns-in-None c = (unequal_absent c.args.index c.args.stl (omega arith) c.in-None.ensures, search rules)
