-- `capacity::equal_units` meets its contract.
-- Assumes nothing.
use Rattle.capacity.proofs.SizeLaws.{half_a, half_b, half_none}
use borrow.Author.Rules.{rules}
use Rattle.capacity.proofs.equal_units.Goals as goal

pub returns-then-half-stl : goal.returns-then-half-stl
returns-then-half-stl c = half_a _ _ c.each_a.ensures.0 c.each_a.ensures.1 c.if-half-stl.true

pub returns-then-half-stl-2 : goal.returns-then-half-stl-2
returns-then-half-stl-2 c = half_b _ _ c.each_b.ensures.0 c.each_b.ensures.1 c.if-half-stl-2.true

pub returns : goal.returns
returns c = (half_none _ (search rules) c.if-half-stl.false c.if-half-stl-2.false, search rules)
