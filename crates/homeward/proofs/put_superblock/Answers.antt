-- `homeward::put_superblock` meets its contract.
-- Assumes nothing.
use mathlib.Core.Path.{◌≡◌, refl}
use Prim.Native.Nat.{ℕ, ◌+◌, ◌-◌, ◌*◌, ◌<◌, ◌≤◌}
use native.Mathlib.Nat.{mul-le-mul_right}
use native.Mathlib.Omega.{arith}
use borrow.Author.Rules.{rules}
use Rattle.array.specs.CodingArray.{superblock}
use Rattle.homeward.proofs.Unplacing.{run_out, lower_run, upper_next}
use Rattle.homeward.proofs.put_superblock.Goals as goal

-- where a superblock begins, and a row of it
start-le : (w s : ℕ) → s < 3 → s * superblock w ≤ 2 * superblock w
start-le w s h = mul-le-mul_right (superblock w) (omega arith)

row-le : (w k : ℕ) → 2 ≤ k → k < 8 → (2 * w ≤ k * w) × (k * w ≤ 7 * w)
row-le w k h l = (mul-le-mul_right w h, mul-le-mul_right w (omega arith))

next_row : (a w k : ℕ) → 210 < w → 2 ≤ k → a + (k + 1) * w - 16 ≡ a + k * w - 16 + w
next_row a w k h l = let t = mul-le-mul_right w l in omega arith

pub put_upper_row-requires : goal.put_upper_row-requires
put_upper_row-requires c =
    let w = c.args.w in
    let s = c.args.s in
    record {
      wide = c.requires.0;
      row = search rules;
      upper = omega arith;
      next = upper_next w s 0 (8 * s) (s * superblock w) c.requires.1 (omega arith) (omega arith) (omega arith);
      so_far = c.requires.2;
    }

pub put_upper_row-requires-2 : goal.put_upper_row-requires-2
put_upper_row-requires-2 c =
    let w = c.args.w in
    let s = c.args.s in
    record {
      wide = c.requires.0;
      row = search rules;
      upper = omega arith;
      next = upper_next w s 1 (8 * s + 1) (s * superblock w + (w - 8)) c.requires.1 (omega arith) refl (omega arith);
      so_far = c.put_upper_row.ensures;
    }

pub loop-k-preserved : goal.loop-k-preserved
loop-k-preserved c =
    let w = c.args.w in
    let s = c.args.s in
    let at-loop = c.loop-k in
    let taken = c.loop-k-test.true in
    let k = at-loop.k in
    run_out c.requires.0 c.args.array.now _ (8 * s + k) 0 w (s * superblock w + k * w - 16) _ (search rules) c.interleaved.ensures (lower_run w s k _ c.requires.0 c.requires.1 at-loop.auto.k taken refl) at-loop.invariant _ _ c.put_each.ensures (next_row (s * superblock w) w k c.requires.0.above at-loop.auto.k)
