use Rattle.relay.proofs.Hop.{main_for_lem, relays}
use native.Mathlib.Omega.{arith}
use Rattle.relay.proofs.again.Goals as goal

pub returns : goal.returns
returns c =
    relays c.args.frame.now c.requires.0 (λ k. omega (arith, c.type_inv.frame k)) _ _ _ _ _ c.requires.1
    (main_for_lem c.args.frame _ c.requires.0 c.main_stream.ensures)
    c.write.ensures
