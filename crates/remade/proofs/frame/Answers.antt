use mathlib.Core.Path.{◌≡◌, sym, ap, ◌∙◌}
use borrow.Author.Rules.{rules}
use Prim.Native.Nat.{ℕ, ◌-◌, ◌*◌}
use lib.ListN.{length}
use Rattle.std.proofs.lemmas.Result.{err_from_is_err_and}
use Rattle.refusals.proofs.Numbers.{above_zero}
use Rattle.remade.proofs.Remade.{within_fl, refused_early, within, bounds, refused_frame, remade}
use Rattle.remade.proofs.frame.Goals as goal

-- what a row's width carries, as the code works it out
abbrev most : ℕ → ℕ
most v = 3 * (v * 8 - 16)

pub returns-in_err-early : goal.returns-in_err-early
returns-in_err-early c =
    let p = err_from_is_err_and c.from_residual.result c.from_residual.ensures.1 in
    rw (p.1, p.2) (refused_early c.args.fourteen c.args.fsync1 c.args.level c.args.information.now c.args.out.now _ _ _ (within_fl _ _ c.fl.ensures.0) (ap most c.width.ensures.0) c.in_err-early.ensures (above_zero _))

pub made-frame-requires : goal.made-frame-requires
made-frame-requires c = bounds c.args.fourteen c.args.fsync1 c.args.level c.args.information.now c.args.out.now _ _ (within_fl _ _ c.fl.ensures.0) (ap most c.width.ensures.0) c.in_ok-early.ensures

pub returns-in_err-judge : goal.returns-in_err-judge
returns-in_err-judge c =
    let p = err_from_is_err_and c.from_residual-in_err-judge.result c.from_residual-in_err-judge.ensures.1 in
    rw (p.1, p.2) (refused_frame c.args.fourteen c.args.fsync1 c.args.level c.args.information.now c.args.out.now _ _ (within_fl _ _ c.fl.ensures.0) (ap most c.width.ensures.0) c.in_ok-early.ensures _ _ _ c.sync.ensures c.made-frame.ensures c.in_err-judge.ensures (above_zero _))

pub copy_from_slice-requires : goal.copy_from_slice-requires
copy_from_slice-requires c =
    let size : length c.made-frame.result ≡ 6144 = search rules in
    (within c.args.fourteen c.args.fsync1 c.args.level c.args.information.now c.args.out.now _ _ (within_fl _ _ c.fl.ensures.0) (ap most c.width.ensures.0) c.in_ok-early.ensures).room ∙ sym size

pub returns : goal.returns
returns c = remade c.args.fourteen c.args.fsync1 c.args.level c.args.information.now c.args.out.now _ _ (within_fl _ _ c.fl.ensures.0) (ap most c.width.ensures.0) c.in_ok-early.ensures _ _ _ c.sync.ensures c.made-frame.ensures c.in_ok-judge.ensures c.copy_from_slice.ensures.after
