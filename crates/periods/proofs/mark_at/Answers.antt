use native.Mathlib.Omega.{arith}
use Rattle.periods.proofs.Marks.{unmarked}
use Rattle.periods.proofs.mark_at.Goals as goal

pub returns : goal.returns
returns c = unmarked c.args.bytes.now c.args.p (λ i. omega (arith, c.shared_slice_known-3-1.given i)) _ (λ a b c. rw (a, b, c)) (λ a b c. rw (a, b, c))
