use mathlib.Core.List.{List}
use mathlib.Core.Path.{subst}
use Prim.Native.Nat.{ℕ}
use native.Mathlib.Omega.{arith}
use borrow.Author.Rules.{rules}
use Rattle.frame.specs.Writing.{Writes}
use Rattle.refusals.specs.Refusals.{outcome_number}
use Rattle.edi.proofs.RegeneratingRules.{main_taken}
use Rattle.edi.proofs.Sorted.assemble.Goals as goal

pub put_main-requires : goal.put_main-requires
put_main-requires c = omega (arith, c.requires.0, c.requires.1)

pub returns : goal.returns
returns c =
    subst (λ (k : List ℕ). Writes c.args.x k c.args.out.now c.write.new.out (outcome_number c.write.result))
    (main_taken _ _ _ _ c.requires.0 (search rules) c.put_main.ensures) c.write.ensures
