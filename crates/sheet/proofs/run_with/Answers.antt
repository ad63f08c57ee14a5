use Rattle.sheet.proofs.Gaps.{run_skipped, run_begun, run_followed}
use Rattle.sheet.proofs.run_with.Goals as goal

pub returns-then-entry-ne-FRAME : goal.returns-then-entry-ne-FRAME
returns-then-entry-ne-FRAME c = run_skipped _ _ c.requires.0 c.if-entry-ne-FRAME.true

pub returns-then-run-eq0 : goal.returns-then-run-eq0
returns-then-run-eq0 c = run_begun _ _ c.requires.0 c.if-entry-ne-FRAME.false c.if-run-eq0.true

pub returns : goal.returns
returns c = run_followed _ _ _ c.if-entry-ne-FRAME.false c.if-run-eq0.false c.gap_between.ensures.0
