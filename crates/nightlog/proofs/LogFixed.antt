-- WHAT A CALL ANSWERS IS FIXED: by the number and the bad record of a judged log, by the number and the entry of a record that is read.
-- Assumes nothing.
use Rattle.std.proofs.Common.{Result, Ok, Err, ◌≡◌, refl, sym, ap, arith}
use Rattle.refusals.specs.declared.Refusal.{Refusal}
use Rattle.refusals.specs.Refusals.{outcome_number}
use Rattle.refusals.proofs.Numbers.{above_zero, number_fixed}
use Rattle.nightlog.specs.declared.Entry.{Entry}
use Rattle.nightlog.specs.declared.BadLog.{BadLog}
use Rattle.nightlog.specs.declared.BadLog.TheVariants.{Length, Record}
use Rattle.nightlog.specs.Log.{refusal_for, bad_in, judged_number, judged_bad, found_entry}
use Rattle.refusals.specs.Refusals.{refusal_number}

pub why_fixed : (a b : BadLog) → refusal_number (refusal_for a) ≡ refusal_number (refusal_for b) → bad_in a ≡ bad_in b → a ≡ b
why_fixed Length Length n e = refl
why_fixed Length (Record j) n e = absurd (omega arith)
why_fixed (Record i) Length n e = absurd (omega arith)
why_fixed (Record i) (Record j) n e = ap Record e

pub judged_fixed : (a b : Result (Unit {0}) BadLog) → judged_number a ≡ judged_number b → judged_bad a ≡ judged_bad b → a ≡ b
judged_fixed (Ok x) (Ok y) n e = refl
judged_fixed (Ok x) (Err w) n e = absurd (above_zero (refusal_for w) (sym n))
judged_fixed (Err v) (Ok y) n e = absurd (above_zero (refusal_for v) n)
judged_fixed (Err v) (Err w) n e = ap Err (why_fixed v w n e)

pub found_fixed : (a b : Result Entry Refusal) → outcome_number a ≡ outcome_number b → found_entry a ≡ found_entry b → a ≡ b
found_fixed (Ok x) (Ok y) n e = ap Ok e
found_fixed (Ok x) (Err w) n e = absurd (above_zero w (sym n))
found_fixed (Err v) (Ok y) n e = absurd (above_zero v n)
found_fixed (Err v) (Err w) n e = ap Err (number_fixed v w n)
