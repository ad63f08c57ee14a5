use Rattle.std.proofs.Common.{◌≡◌, refl, ◌∙◌, ◌<◌, arith}
use Rattle.std.proofs.lemmas.Result.{err_from_is_err_and}
use Rattle.refusals.proofs.Numbers.{above_zero}
use Rattle.nightlog.specs.Log.{records_in}
use Rattle.nightlog.proofs.Cut.{counted}
use Rattle.nightlog.proofs.Judged.{bad_begin, bad_stop, bad_more, bad_end, found_good, found_bad}
use Rattle.sheet.proofs.Summing.{readied, stopped, adds_odd, adds_judged, adds_stopped, pass_begins, totals_room, run_room_at, totals_turn, run_turn, pass_stops, pass_ends}
use Rattle.sheet.proofs.add.Goals as goal

pub returns-in_err-records : goal.returns-in_err-records
returns-in_err-records c =
    let p = err_from_is_err_and c.from_residual.result c.from_residual.ensures.1 in
    rw (p.1, p.2, c.in_err-records.ensures.0) (adds_odd _ _ c.in_err-records.ensures.1)

pub returns-in_err-judge : goal.returns-in_err-judge
returns-in_err-judge c =
    let p = err_from_is_err_and c.from_residual-in_err-judge.result c.from_residual-in_err-judge.ensures.1 in
    rw (p.1, p.2) (adds_judged _ _ _ _ c.in_err-judge.ensures (above_zero _))

pub returns-then-not-goes_on : goal.returns-then-not-goes_on
returns-then-not-goes_on c = adds_stopped _ _ _ _ c.in_ok-judge.ensures refl (stopped _ _ _ _ c.in_ok-records.ensures.0 c.goes_on.ensures.0 c.if-not-goes_on.true)

pub loop-i-init : goal.loop-i-init
loop-i-init c =
    let b = pass_begins _ _ _ (readied _ _ _ _ c.in_ok-records.ensures c.goes_on.ensures c.if-not-goes_on.false) in
    record { good = bad_begin _ _; totals = b.0; run = b.1 }

pub returns-in_err-entry : goal.returns-in_err-entry
returns-in_err-entry c =
    let v = c.loop-i in
    let e = c.in_ok-records.ensures.0 in
    let p = err_from_is_err_and c.from_residual-in_err-entry.result c.from_residual-in_err-entry.ensures.1 in
    let f = found_bad _ _ e v.i _ c.loop-i-test.true _ c.entry_in.ensures _ _ c.in_err-entry.ensures.value in
    let within : v.i < records_in c.args.log.now = omega (arith, counted _ _ e) in
    rw (p.1, p.2, f.1) (pass_stops _ _ _ (readied _ _ _ _ c.in_ok-records.ensures c.goes_on.ensures c.if-not-goes_on.false) _ (v.invariant.good ∙ bad_stop _ _ _ within f.0) _ refl within)

pub count-requires : goal.count-requires
count-requires c =
    let v = c.loop-i in
    let n = counted _ _ c.in_ok-records.ensures.0 in
    totals_room _ _ _ (readied _ _ _ _ c.in_ok-records.ensures c.goes_on.ensures c.if-not-goes_on.false) _ _ _ v.invariant.totals v.invariant.run (omega (arith, n)) (omega (arith, n))

pub run_with-run-requires : goal.run_with-run-requires
run_with-run-requires c =
    let v = c.loop-i in
    let n = counted _ _ c.in_ok-records.ensures.0 in
    run_room_at _ _ _ (readied _ _ _ _ c.in_ok-records.ensures c.goes_on.ensures c.if-not-goes_on.false) _ _ _ v.invariant.totals v.invariant.run (omega (arith, n)) (omega (arith, n))

pub loop-i-preserved : goal.loop-i-preserved
loop-i-preserved c =
    let v = c.loop-i in
    let e = c.in_ok-records.ensures.0 in
    let r = readied _ _ _ _ c.in_ok-records.ensures c.goes_on.ensures c.if-not-goes_on.false in
    let f = found_good _ _ e v.i _ c.loop-i-test.true _ c.entry_in.ensures _ _ c.in_ok-entry.ensures.value in
    record {
      good = v.invariant.good ∙ bad_more _ _ _ (omega (arith, counted _ _ e)) f.0;
      totals = totals_turn _ _ _ r _ _ _ v.invariant.totals v.invariant.run _ f.1 _ c.count.ensures;
      run = run_turn _ _ _ r _ _ _ v.invariant.totals v.invariant.run _ f.1 _ c.run_with-run.ensures;
    }

pub returns : goal.returns
returns c =
    let v = c.loop-i in
    let e : v.i ≡ records_in c.args.log.now = omega (arith, counted _ _ c.in_ok-records.ensures.0) in
    pass_ends _ _ _ (readied _ _ _ _ c.in_ok-records.ensures c.goes_on.ensures c.if-not-goes_on.false) _ (v.invariant.good ∙ bad_end _ _ _ (omega arith)) _ _ (omega arith) (rw (← e) v.invariant.totals) (rw (← e) v.invariant.run)
