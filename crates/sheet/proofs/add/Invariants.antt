use Rattle.std.proofs.Common.{◌≡◌, ◌-◌}
use Rattle.nightlog.specs.Log.{records_in, entries_to, bad_from}
use Rattle.sheet.specs.Sheets.{totals_added, run_added}
use Rattle.sheet.proofs.add.Given as goal

abbrev pub invariant-loop-i : goal.invariant-loop-i
invariant-loop-i l = record {
  good : bad_from l.log 0 (records_in l.log) ≡ bad_from l.log l.i (records_in l.log - l.i);
  totals : l.totals ≡ totals_added l.fn.sheet.totals (entries_to l.log l.i);
  run : l.run ≡ run_added l.fn.sheet.run (entries_to l.log l.i);
}
