-- `homeward::put_check` meets its contract.
-- Assumes nothing.
use Prim.Native.Nat.{ℕ, ◌+◌, ◌-◌, ◌*◌, ◌≤◌}
use native.Mathlib.Nat.{mul-le-mul_right}
use native.Mathlib.Omega.{arith}
use borrow.Author.Rules.{rules}
use Rattle.array.proofs.Filling.{filled_all}
use Rattle.homeward.proofs.Unplacing.{run_filled, check_at}
use Rattle.homeward.proofs.put_check.Goals as goal

-- the bytes of one row more
room : (i r : ℕ) → i + 1 ≤ 24 → i * r + r ≤ 24 * r
room i r h = let k : (i + 1) * r ≤ 24 * r = mul-le-mul_right r h in omega arith

pub loop-i-preserved : goal.loop-i-preserved
loop-i-preserved c =
    let i = c.loop-i.i in
    let w = c.args.w in
    let r = 240 - w in
    let p = c.interleaved.ensures in
    run_filled c.args.array.now _ _ 8 r (i * r) _ (24 * r) c.loop-i.invariant (room i r (search rules)) _ _ (λ m. check_at w c.args.array.now i _ m p) c.put_each.ensures (omega arith)

pub returns : goal.returns
returns c =
    let r = 240 - c.args.w in
    filled_all _ 0 _ _ (c.loop-i.i * r) c.loop-i.invariant (mul-le-mul_right r c.loop-i-test.false)
