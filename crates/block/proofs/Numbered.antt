-- No refusal's number is 0: the number 0 is left to say that a call was accepted.
-- Assumes nothing.
use Prim.Native.Nat.{◌≤◌}
use lib.Dec.{lit≤}
use Rattle.block.specs.declared.verdict.Reason.{Reason}
use Rattle.block.specs.declared.verdict.Reason.TheVariants.{WrongLength, TooManyRecords, NoFirstInput, UnknownKind, MisplacedInput, WrongPinCount, StrayByte, PinNotBelow, OutOfRange, LateArrival, WrongHopLimit, WrongTable, WrongRatio, WrongBudget, WrongBuffer, WrongPatternByte, WrongLine, WrongName, WrongOrder}
use Rattle.block.specs.Verdict.{number_of}

pub numbered : (reason : Reason) → 1 ≤ number_of reason
numbered WrongLength = lit≤ tt
numbered TooManyRecords = lit≤ tt
numbered NoFirstInput = lit≤ tt
numbered UnknownKind = lit≤ tt
numbered MisplacedInput = lit≤ tt
numbered WrongPinCount = lit≤ tt
numbered StrayByte = lit≤ tt
numbered PinNotBelow = lit≤ tt
numbered OutOfRange = lit≤ tt
numbered LateArrival = lit≤ tt
numbered WrongHopLimit = lit≤ tt
numbered WrongTable = lit≤ tt
numbered WrongRatio = lit≤ tt
numbered WrongBudget = lit≤ tt
numbered WrongBuffer = lit≤ tt
numbered WrongPatternByte = lit≤ tt
numbered WrongLine = lit≤ tt
numbered WrongName = lit≤ tt
numbered WrongOrder = lit≤ tt
