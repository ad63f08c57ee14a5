use Rattle.std.proofs.Common.{sym}
use Rattle.signals.proofs.SignalBack.{accepted}
use Rattle.signals.proofs.CSignals.{given}
use Rattle.signals.proofs.step.Goals as goal

pub put_signal-requires : goal.put_signal-requires
put_signal-requires c = (accepted _ _ c.in_ok-signal_refusal.ensures).0

pub returns : goal.returns
returns c =
    given _ _ c.args.signal.now c.args.bytes.now _ _ _ _ (sym c.in_ok-signal_refusal.ensures) (accepted _ _ c.in_ok-signal_refusal.ensures).1 c.state_in-state.ensures c.step-step.ensures c.put_signal.ensures
