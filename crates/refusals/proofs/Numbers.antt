-- A refusal and its number fix each other.
-- Assumes nothing.
use Rattle.std.proofs.Common.{◌≡◌, sym, ap, ◌∙◌, arith, refl}
use Rattle.refusals.specs.Refusals.{Refusal, refusal_number, refusal_by}
use Rattle.refusals.specs.declared.Refusal.TheVariants.{Length, Sync, Status, Null, NstAbove, HeaderSum, FctAbove, StlAbove, FlDiffers, FlAbove, MainLength, TooWide, NoSuchStream, BadItem, ManagementItem, StreamNumbers, TooLong, OutOfPhase, OutOfTurn, ClosingSum, LimitOutside, LogLength, NotAllowed, EqualScids, NoSize, Beyond, Overlap, PlaceOutside, ItemStatus, MessageLength, NotSixteen}

-- no refusal has the number 0
pub above_zero : (r : Refusal) → refusal_number r ≡ 0 → ⊥
above_zero Length e = omega arith
above_zero Sync e = omega arith
above_zero Status e = omega arith
above_zero Null e = omega arith
above_zero NstAbove e = omega arith
above_zero HeaderSum e = omega arith
above_zero FctAbove e = omega arith
above_zero StlAbove e = omega arith
above_zero FlDiffers e = omega arith
above_zero FlAbove e = omega arith
above_zero MainLength e = omega arith
above_zero TooWide e = omega arith
above_zero NoSuchStream e = omega arith
above_zero BadItem e = omega arith
above_zero ManagementItem e = omega arith
above_zero StreamNumbers e = omega arith
above_zero TooLong e = omega arith
above_zero OutOfPhase e = omega arith
above_zero OutOfTurn e = omega arith
above_zero ClosingSum e = omega arith
above_zero LimitOutside e = omega arith
above_zero LogLength e = omega arith
above_zero NotAllowed e = omega arith
above_zero EqualScids e = omega arith
above_zero NoSize e = omega arith
above_zero Beyond e = omega arith
above_zero Overlap e = omega arith
above_zero PlaceOutside e = omega arith
above_zero ItemStatus e = omega arith
above_zero MessageLength e = omega arith
above_zero NotSixteen e = omega arith

-- a refusal is the one that its number stands for
pub by_number : (r : Refusal) → refusal_by (refusal_number r) ≡ r
unfolding refusal_by
by_number Length = refl
by_number Sync = refl
by_number Status = refl
by_number Null = refl
by_number NstAbove = refl
by_number HeaderSum = refl
by_number FctAbove = refl
by_number StlAbove = refl
by_number FlDiffers = refl
by_number FlAbove = refl
by_number MainLength = refl
by_number TooWide = refl
by_number NoSuchStream = refl
by_number BadItem = refl
by_number ManagementItem = refl
by_number StreamNumbers = refl
by_number TooLong = refl
by_number OutOfPhase = refl
by_number OutOfTurn = refl
by_number ClosingSum = refl
by_number LimitOutside = refl
by_number LogLength = refl
by_number NotAllowed = refl
by_number EqualScids = refl
by_number NoSize = refl
by_number Beyond = refl
by_number Overlap = refl
by_number PlaceOutside = refl
by_number ItemStatus = refl
by_number MessageLength = refl
by_number NotSixteen = refl

-- equal numbers, equal refusals
pub number_fixed : (r s : Refusal) → refusal_number r ≡ refusal_number s → r ≡ s
number_fixed r s e = sym (by_number r) ∙ ap refusal_by e ∙ by_number s
