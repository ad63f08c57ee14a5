use mathlib.Core.Path.{◌∙◌}
use native.Mathlib.Omega.{arith}
use Rattle.fields.proofs.BeyondBytes.{stream_beyond}
use Rattle.frame.specs.Frame.{stream_of}
use Rattle.fields.proofs.entry.Goals as goal

pub returns-then-i-frame : goal.returns-then-i-frame
returns-then-i-frame c = c.stream.ensures ∙ stream_beyond c.args.frame.now c.args.i (omega arith)

pub returns : goal.returns
unfolding stream_of
returns c = rw (c.stream-2.ensures, c.word.ensures.0)
