use mathlib.Core.Path.{◌≡◌}
use Rattle.code.specs.CodeClauses.{by_bits}
use Rattle.code.proofs.multiple.Given as goal

abbrev pub invariant-loop-k : goal.invariant-loop-k
invariant-loop-k g l = l.sum ≡ by_bits l.multiples l.k l.f
