-- `outward::index_at` meets its contract.
-- Assumes nothing.
use borrow.Author.Tests.{lt-ltb, le-ltb}
use Rattle.array.specs.CodingArray.{index_at}
use Rattle.outward.proofs.index_at.Goals as goal

pub returns-then-i-lt2 : goal.returns-then-i-lt2
unfolding index_at
returns-then-i-lt2 c = simp (lt-ltb _ _ c.if-i-lt2.true)

pub returns : goal.returns
unfolding index_at
returns c = simp (le-ltb _ _ c.if-i-lt2.false)
