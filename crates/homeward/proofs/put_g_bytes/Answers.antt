-- `homeward::put_g_bytes` meets its contract.
-- Assumes nothing.
use mathlib.Core.Path.{ap, ◌∙◌}
use Prim.Native.Nat.{ℕ, ◌+◌, ◌*◌}
use native.Mathlib.Omega.{arith}
use lib.ListN.{get_or}
use Rattle.array.specs.OutputArray.{g_bytes_of}
use Rattle.homeward.proofs.Unplacing.{each_is}
use Rattle.homeward.proofs.put_g_bytes.Goals as goal

pub returns : goal.returns
unfolding g_bytes_of
returns c =
    let o = c.args.output.now in
    let first = c.args.first in
    c.put_each.ensures
    ∙ each_is o c.args.out.now first 32 192 (λ n. get_or o (32 * n + first) 0) c.requires.1 (λ m h. ap (λ (a : ℕ). get_or o a 0) (omega arith))
