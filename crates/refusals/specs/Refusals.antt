-- The refusals: the number of each, and of an outcome.
-- Assumes nothing.
use Rattle.std.specs.Prelude.{Result, Ok, Err, ℕ, eqb, if◌then◌else◌}
pub use Rattle.refusals.specs.declared.Refusal.{Refusal}
use Rattle.refusals.specs.declared.Refusal.TheVariants.{Length, Sync, Status, Null, NstAbove, HeaderSum, FctAbove, StlAbove, FlDiffers, FlAbove, MainLength, TooWide, NoSuchStream, BadItem, ManagementItem, StreamNumbers, TooLong, OutOfPhase, OutOfTurn, ClosingSum, LimitOutside, LogLength, NotAllowed, EqualScids, NoSize, Beyond, Overlap, PlaceOutside, ItemStatus, MessageLength, NotSixteen}

abbrev pub refusal_number : Refusal → ℕ
refusal_number Length = 1
refusal_number Sync = 2
refusal_number Status = 3
refusal_number Null = 4
refusal_number NstAbove = 5
refusal_number HeaderSum = 6
refusal_number FctAbove = 7
refusal_number StlAbove = 8
refusal_number FlDiffers = 9
refusal_number FlAbove = 10
refusal_number MainLength = 11
refusal_number TooWide = 12
refusal_number NoSuchStream = 13
refusal_number BadItem = 20
refusal_number ManagementItem = 21
refusal_number StreamNumbers = 22
refusal_number TooLong = 23
refusal_number OutOfPhase = 24
refusal_number OutOfTurn = 25
refusal_number ClosingSum = 26
refusal_number LimitOutside = 27
refusal_number LogLength = 28
refusal_number NotAllowed = 29
refusal_number EqualScids = 30
refusal_number NoSize = 31
refusal_number Beyond = 32
refusal_number Overlap = 33
refusal_number PlaceOutside = 34
refusal_number ItemStatus = 35
refusal_number MessageLength = 36
refusal_number NotSixteen = 37

-- an outcome's number: 0 where nothing is refused
abbrev pub outcome_number : {A : Type 0} → Result A Refusal → ℕ
outcome_number (Ok x) = 0
outcome_number (Err r) = refusal_number r

-- the refusal that a number stands for, the last one where it stands for none
unfoldable pub refusal_by : ℕ → Refusal
refusal_by n =
    if eqb n 1 then Length else (
    if eqb n 2 then Sync else (
    if eqb n 3 then Status else (
    if eqb n 4 then Null else (
    if eqb n 5 then NstAbove else (
    if eqb n 6 then HeaderSum else (
    if eqb n 7 then FctAbove else (
    if eqb n 8 then StlAbove else (
    if eqb n 9 then FlDiffers else (
    if eqb n 10 then FlAbove else (
    if eqb n 11 then MainLength else (
    if eqb n 12 then TooWide else (
    if eqb n 13 then NoSuchStream else (
    if eqb n 20 then BadItem else (
    if eqb n 21 then ManagementItem else (
    if eqb n 22 then StreamNumbers else (
    if eqb n 23 then TooLong else (
    if eqb n 24 then OutOfPhase else (
    if eqb n 25 then OutOfTurn else (
    if eqb n 26 then ClosingSum else (
    if eqb n 27 then LimitOutside else (
    if eqb n 28 then LogLength else (
    if eqb n 29 then NotAllowed else (
    if eqb n 30 then EqualScids else (
    if eqb n 31 then NoSize else (
    if eqb n 32 then Beyond else (
    if eqb n 33 then Overlap else (
    if eqb n 34 then PlaceOutside else (
    if eqb n 35 then ItemStatus else (
    if eqb n 36 then MessageLength else
    NotSixteen)))))))))))))))))))))))))))))
