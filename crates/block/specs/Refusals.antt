-- Checks 1 to 10, and Read (document 01, "Refusals in checking order").
use Rattle.std.specs.Prelude.{Result, Ok, Err}
use Rattle.block.specs.Verdict.{Verdict}
use Rattle.block.specs.declared.verdict.Reason.TheVariants.{WrongLength, TooManyRecords, NoFirstInput, UnknownKind, MisplacedInput, WrongPinCount, StrayByte, PinNotBelow, OutOfRange, LateArrival}
use Rattle.block.specs.declared.Counts.{Counts}
use Rattle.block.specs.declared.verdict.Refusal.{Refusal}
use Rattle.std.specs.Prelude.{ℕ, zero, suc, ◌+◌, ◌-◌, ◌%◌, Bool, cond, ◌&&◌, List, [], ◌∷◌, ◌++◌, eqb, leb, ltb, length}
use Rattle.laws.specs.Below.{all_below}
use Rattle.block.specs.Record.{File, net_count, byte_at, kind, contact, delay, pin_count, pin, rise, fall, allowed, is_input}
use Rattle.block.specs.Kind.{kind_of, rule_of}
use Rattle.block.specs.Block.{arrival, inputs_below, input_count}
use Rattle.block.specs.Verdict.{Check, check, verdict}

-- Whether x is low to high.
unfoldable pub within : ℕ → ℕ → ℕ → Bool
within low high x = leb low x && leb x high

-- Whether the n bytes from byte k of a record on are 0.
unfoldable pub zero_bytes : File → ℕ → ℕ → ℕ → Bool
zero_bytes file net k n = all_below n (λ i. eqb (byte_at file net (k + i)) 0)

-- The refusals in document 01's words. Each test passes where its refusal does not hold.

-- 3. There is no record, or the first kind is not 1.
unfoldable pub starts_with_input : File → Bool
starts_with_input file = leb 1 (net_count file) && is_input file 0

-- 1. The length is not a multiple of 20.
-- 2. There are more than 1,024 records.
unfoldable pub file_checks : File → List Check
file_checks file =
    check WrongLength 0 (eqb (length file % 20) 0)
    ∷ check TooManyRecords 0 (leb (net_count file) 1024)
    ∷ check NoFirstInput 0 (starts_with_input file)
    ∷ []

-- 4. The kind is 0 or above 9.
unfoldable pub kind_known : File → ℕ → Bool
kind_known file net = within 1 9 (kind file net)

-- 5. An input stands after a gate, or is the 65th.
unfoldable pub input_in_place : File → ℕ → Bool
input_in_place file net = all_below net (is_input file) && ltb (inputs_below file net) 64

-- 6. A gate's pin count is wrong for its kind.
unfoldable pub pin_count_right : File → ℕ → Bool
pin_count_right file net =
    let rule = rule_of (kind_of (kind file net)) in
    within rule.least rule.most (pin_count file net)

-- 7. A non-zero byte stands in bytes 1 to 17 or 19 of an input, or in an unused pin, byte 18 or byte 19 of a gate. (Both bytes of a
-- pin are 0 where the pin is.)
unfoldable pub input_spare_zero : File → ℕ → Bool
input_spare_zero file net = zero_bytes file net 1 17 && zero_bytes file net 19 1

unfoldable pub unused_pins_zero : File → ℕ → Bool
unused_pins_zero file net = all_below (4 - pin_count file net) (λ i. eqb (pin file net (pin_count file net + i)) 0)

unfoldable pub gate_spare_zero : File → ℕ → Bool
gate_spare_zero file net = unused_pins_zero file net && zero_bytes file net 18 2

-- 8. A used pin is not below its own net.
unfoldable pub pins_below : File → ℕ → Bool
pins_below file net = all_below (pin_count file net) (λ p. ltb (pin file net p) net)

-- 9. A gate's contact, delay, rise or fall, or an input's byte 18 (1 to 15), is outside its range. The four of a gate are given as
-- numbers.
unfoldable pub gate_in_range : ℕ → ℕ → ℕ → ℕ → Bool
gate_in_range contact delay rise fall = within 0 15 contact && (within 1 63 delay && (within 1 127 rise && within 1 127 fall))

unfoldable pub input_in_range : File → ℕ → Bool
input_in_range file net = within 1 15 (allowed file net)

-- 10. The arrival exceeds 255.
unfoldable pub arrival_in_time : File → ℕ → Bool
arrival_in_time file net = leb (arrival file net) 255

-- The checks on an input, and on a gate, after the kind's.
unfoldable pub input_checks : File → ℕ → List Check
input_checks file net =
    check MisplacedInput net (input_in_place file net)
    ∷ check StrayByte net (input_spare_zero file net)
    ∷ check OutOfRange net (input_in_range file net)
    ∷ []

unfoldable pub gate_checks : File → ℕ → List Check
gate_checks file net =
    check WrongPinCount net (pin_count_right file net)
    ∷ check StrayByte net (gate_spare_zero file net)
    ∷ check PinNotBelow net (pins_below file net)
    ∷ check OutOfRange net (gate_in_range (contact file net) (delay file net) (rise file net) (fall file net))
    ∷ []

-- The checks on a record, 4 to 10.
unfoldable pub field_checks : File → ℕ → List Check
field_checks file net = check UnknownKind net (kind_known file net) ∷ cond (is_input file net) (input_checks file net) (gate_checks file net)

unfoldable pub record_checks : File → ℕ → List Check
record_checks file net = field_checks file net ++ (check LateArrival net (arrival_in_time file net) ∷ [])

-- The checks on n records from a net on, 4 to 10 on one before the next.
unfoldable pub records_from : File → ℕ → ℕ → List Check
records_from file net zero = []
records_from file net (suc n) = record_checks file net ++ records_from file (suc net) n

-- Whole-file checks come first, then records by net number.
unfoldable pub read_checks : File → List Check
read_checks file = file_checks file ++ records_from file 0 (net_count file)

-- So many nets and inputs.
abbrev pub counts : ℕ → ℕ → Counts
counts nets inputs = record { nets = nets; inputs = inputs }

-- What a verdict on the file comes to: the counts of nets and inputs, or the refusal.
abbrev pub answer_to : File → Verdict → Result Counts Refusal
answer_to file (Ok _) = Ok (counts (net_count file) (input_count file))
answer_to file (Err r) = Err r

-- Document 01's Read: takes the file and returns its counts of nets and inputs.
unfoldable pub read_of : File → Result Counts Refusal
read_of file = answer_to file (verdict (read_checks file))
