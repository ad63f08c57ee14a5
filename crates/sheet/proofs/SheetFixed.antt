-- WHAT ADDING ANSWERS IS FIXED by its number, its bad record and its sheet.
-- Assumes nothing.
use Rattle.std.proofs.Common.{Result, Ok, Err, ◌≡◌, refl, sym, ap, arith}
use Rattle.refusals.specs.Refusals.{refusal_number}
use Rattle.refusals.proofs.Numbers.{above_zero}
use Rattle.nightlog.specs.declared.BadLog.{BadLog}
use Rattle.nightlog.specs.declared.BadLog.TheVariants.{Length, Record}
use Rattle.nightlog.specs.Log.{refusal_for as log_refusal_for}
use Rattle.nightlog.proofs.LogFixed.{why_fixed}
use Rattle.sheet.specs.declared.Sheet.{Sheet}
use Rattle.sheet.specs.declared.NotAdded.{NotAdded}
use Rattle.sheet.specs.declared.NotAdded.TheVariants.{Log, CannotGoOn}
use Rattle.sheet.specs.Sheets.{refusal_for, bad_of, added_number, added_bad, sheet_after}

-- a log's own refusal is never 12
no_twelve : (w : BadLog) → refusal_number (log_refusal_for w) ≡ 12 → ⊥
no_twelve Length e = omega arith
no_twelve (Record i) e = omega arith

why_fixed_lem : (a b : NotAdded) → refusal_number (refusal_for a) ≡ refusal_number (refusal_for b) → bad_of a ≡ bad_of b → a ≡ b
why_fixed_lem (Log v) (Log w) n e = ap Log (why_fixed v w n e)
why_fixed_lem (Log v) CannotGoOn n e = absurd (no_twelve v n)
why_fixed_lem CannotGoOn (Log w) n e = absurd (no_twelve w (sym n))
why_fixed_lem CannotGoOn CannotGoOn n e = refl

pub added_fixed : (s : Sheet) (a b : Result Sheet NotAdded) → added_number a ≡ added_number b → added_bad a ≡ added_bad b → sheet_after s a ≡ sheet_after s b → a ≡ b
added_fixed s (Ok x) (Ok y) n e t = ap Ok t
added_fixed s (Ok x) (Err w) n e t = absurd (above_zero (refusal_for w) (sym n))
added_fixed s (Err v) (Ok y) n e t = absurd (above_zero (refusal_for v) n)
added_fixed s (Err v) (Err w) n e t = ap Err (why_fixed_lem v w n e)
