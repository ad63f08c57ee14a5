use mathlib.Core.Path.{◌≡◌, ◌∙◌}
use borrow.Author.Rules.{rules}
use lib.Bits.{bit_xor}
use Rattle.std.specs.List.{fold}
use Rattle.field.specs.Field.{times}
use Rattle.code.proofs.CodeTurns.{by_fold}
use Rattle.code.proofs.value_at.Goals as goal

pub returns : goal.returns
returns c = let e : c.fold.result ≡ fold (λ v b. bit_xor (times v c.args.z) b) 0 c.args.row.now = search rules in e ∙ by_fold c.args.z 0 c.args.row.now
