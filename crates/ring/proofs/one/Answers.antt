-- `ring::one` meets its contract, by the law of one byte that is fed back.
-- Assumes nothing.
use borrow.Author.Rules.{rules}
use Rattle.ring.proofs.Turning.{taken}
use Rattle.ring.proofs.one.Goals as goal

pub returns : goal.returns
returns c = λ r s.
    let x = c.args in
    taken x.w.now x.k x.x x.y x.b c.mixed.result (search rules) c.requires.0 c.requires.1 c.requires.2 c.mixed.ensures (search rules) s
