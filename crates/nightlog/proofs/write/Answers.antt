use Rattle.std.proofs.Common.{refl, sym, ◌∙◌}
use Rattle.nightlog.proofs.Judged.{not-sixteen, not-allowed, written}
use Rattle.nightlog.proofs.Recorded.{filled}
use Rattle.nightlog.proofs.write.Goals as goal

pub returns-then-out-ne16 : goal.returns-then-out-ne16
returns-then-out-ne16 c = not-sixteen _ _ _ c.if-out-ne16.true refl

pub returns-then-not-allows : goal.returns-then-not-allows
returns-then-not-allows c = not-allowed _ _ _ c.if-out-ne16.false (sym c.allows.ensures ∙ c.if-not-allows.true) refl

pub returns : goal.returns
returns c = written _ _ _ c.if-out-ne16.false (sym c.allows.ensures ∙ c.if-not-allows.false) (filled _ _ _ _ c.if-out-ne16.false c.put8.ensures c.put_bytes.ensures)
