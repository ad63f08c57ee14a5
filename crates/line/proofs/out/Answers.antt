use Rattle.std.proofs.lemmas.Result.{err_from_is_err_and}
use Rattle.refusals.proofs.Numbers.{above_zero}
use Rattle.line.proofs.FrameOut.{frame_fl, logical_within_lem, lengths_asked, refused_length, refused_frame, sent}
use Rattle.line.proofs.out.Goals as goal

pub returns-in_err-lengths : goal.returns-in_err-lengths
returns-in_err-lengths c =
    let p = err_from_is_err_and c.from_residual.result c.from_residual.ensures.1 in
    rw (p.1, p.2) (refused_length c.args.fourteen c.args.frame.now c.args.management.now c.args.supervision.now c.args.synchronising.now c.args.signalling.now c.args.output.now _ (lengths_asked c.args.fourteen c.args.frame.now c.args.management.now c.args.supervision.now c.args.synchronising.now c.args.signalling.now c.args.output.now _ _ c.width.ensures.0 c.in_err-lengths.ensures) (above_zero _))

pub returns-in_err-judge : goal.returns-in_err-judge
returns-in_err-judge c =
    let p = err_from_is_err_and c.from_residual-in_err-judge.result c.from_residual-in_err-judge.ensures.1 in
    rw (p.1, p.2) (refused_frame c.args.fourteen c.args.frame.now c.args.management.now c.args.supervision.now c.args.synchronising.now c.args.signalling.now c.args.output.now _ (lengths_asked c.args.fourteen c.args.frame.now c.args.management.now c.args.supervision.now c.args.synchronising.now c.args.signalling.now c.args.output.now _ _ c.width.ensures.0 c.in_ok-lengths.ensures) c.in_err-judge.ensures (above_zero _))

pub slice_bounds-out_coded-end : goal.slice_bounds-out_coded-end
slice_bounds-out_coded-end c = logical_within_lem c.args.frame.now _ c.in_ok-judge.ensures (frame_fl _ _ c.fl.ensures.0)

pub returns : goal.returns
returns c = sent c.args.fourteen c.args.frame.now c.args.management.now c.args.supervision.now c.args.synchronising.now c.args.signalling.now c.args.output.now _ _ _ (lengths_asked c.args.fourteen c.args.frame.now c.args.management.now c.args.supervision.now c.args.synchronising.now c.args.signalling.now c.args.output.now _ _ c.width.ensures.0 c.in_ok-lengths.ensures) c.in_ok-judge.ensures (frame_fl _ _ c.fl.ensures.0) c.out_coded.ensures
