-- Checks in order, and the verdict on them (document 01, "Refusals in checking order").
use Rattle.std.specs.Prelude.{ℕ, Bool, true, false, List, [], ◌∷◌, Result, Ok, Err, ⊤}
use Rattle.block.specs.declared.verdict.Reason.{Reason}
use Rattle.block.specs.declared.verdict.Reason.TheVariants.{WrongLength, TooManyRecords, NoFirstInput, UnknownKind, MisplacedInput, WrongPinCount, StrayByte, PinNotBelow, OutOfRange, LateArrival, WrongHopLimit, WrongTable, WrongRatio, WrongBudget, WrongBuffer, WrongPatternByte, WrongLine, WrongName, WrongOrder}
use Rattle.block.specs.declared.verdict.Refusal.{Refusal}

-- The number of a reason in document 01's list, which the requests continue.
abbrev pub number_of : Reason → ℕ
number_of WrongLength = 1
number_of TooManyRecords = 2
number_of NoFirstInput = 3
number_of UnknownKind = 4
number_of MisplacedInput = 5
number_of WrongPinCount = 6
number_of StrayByte = 7
number_of PinNotBelow = 8
number_of OutOfRange = 9
number_of LateArrival = 10
number_of WrongHopLimit = 11
number_of WrongTable = 12
number_of WrongRatio = 13
number_of WrongBudget = 14
number_of WrongBuffer = 15
number_of WrongPatternByte = 16
number_of WrongLine = 17
number_of WrongName = 18
number_of WrongOrder = 19

-- A check: why it refuses what does not pass, the place that its refusal returns, and whether it passes.
pub data Check : Type 0 where
  check : Reason → ℕ → Bool → Check

-- Document 01's refusal: a number, which the reason has, and a place.
abbrev pub refusal : Reason → ℕ → Refusal
refusal reason place = record { reason = reason; place = place }

-- What checks come to: nothing to say, or a refusal.
abbrev pub Verdict : Type 0
Verdict = Result ⊤ Refusal

abbrev pub Accepted : Verdict
Accepted = Ok tt

-- The verdict on a list of checks: the refusal of the first that does not pass.
unfoldable pub verdict : List Check → Verdict
verdict [] = Accepted
verdict (check reason place true ∷ rest) = verdict rest
verdict (check reason place false ∷ rest) = Err (refusal reason place)
