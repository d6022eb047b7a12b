-- Simulate (document 01, "Levels and simulation" and "Refusals in checking order"): its checks, its answer and its buffers.
use Rattle.std.specs.Prelude.{Result}
use Rattle.block.specs.Verdict.{Verdict}
use Rattle.block.specs.declared.verdict.Refusal.{Refusal}
use Rattle.std.specs.Prelude.{ℕ, ◌<◌, List, [], ◌∷◌, ◌++◌, map, ◌≡◌, length, get_or}
use Rattle.excitation.specs.Excitation.{excitation_of, pattern_of}
use Rattle.excitation.specs.UncertaintySet.{code, single, sets_in}
use Rattle.excitation.specs.declared.Excitation.{Excitation}
use Rattle.block.specs.Block.{input_count}
use Rattle.block.specs.Record.{File, net_count}
use Rattle.block.specs.Refusals.{read_checks}
use Rattle.block.specs.Verdict.{Check, verdict}
use Rattle.operation.specs.Arguments.{table_check, sheet_check, pattern_check, work_check}
use Rattle.operation.specs.Operation.{answer_after, buffer_after, WorkAfter}
use Rattle.operation.specs.Pattern.{byte_checks}
use Rattle.operation.specs.declared.Currents.{Currents}
use Rattle.sheet.specs.Sheet.{Sheet, sheet_words}
use Rattle.evaluation.specs.Evaluation.{simulated_sheet, currents_of, Evaluated}
use Rattle.evaluation.specs.declared.Setting.{Setting}

-- Simulate takes file, table, sheet, pattern and work buffer, as they are lent.
pub record SimulateArguments : Type 0 where
  pub file : File
  pub table : List ℕ
  pub sheet : List ℕ
  pub pattern : List ℕ
  pub work : List ℕ

-- The checks of the sizes of what Simulate has beside the file: the count of nets, and the lengths of table, sheet, pattern and work
-- buffer.
unfoldable pub size_checks : ℕ → ℕ → ℕ → ℕ → ℕ → List Check
size_checks nets table sheet pattern work = table_check table ∷ sheet_check sheet ∷ pattern_check pattern ∷ work_check nets work ∷ []

-- The verdict on all of Simulate's checks, in order.
unfoldable pub simulate_verdict : SimulateArguments → Verdict
simulate_verdict given =
    let file = given.file in
    verdict
    (read_checks file
    ++ (size_checks (net_count file) (length given.table) (length given.sheet) (length given.pattern) (length given.work)
    ++ byte_checks file given.pattern (input_count file)))

-- The currents of the pattern that some bytes hold.
abbrev pub pattern_sheet : File → List ℕ → Sheet
pattern_sheet file bytes = simulated_sheet file (pattern_of (input_count file) bytes)

-- The sheet of the pattern given.
abbrev pub given_sheet : SimulateArguments → Sheet
given_sheet given = pattern_sheet given.file given.pattern

-- Simulate's answer: the drop and the quiet tick, or the refusal.
abbrev pub simulate_answer : SimulateArguments → Result Currents Refusal
simulate_answer given = answer_after (simulate_verdict given) (currents_of given.table (given_sheet given))

-- What Simulate promises: its answer, and each buffer as it leaves it.
pub record Simulated (given : SimulateArguments) (answer : Result Currents Refusal) (sheet' work' : List ℕ) : Type 0 where
  pub answered : answer ≡ simulate_answer given
  pub written : sheet' ≡ buffer_after (simulate_verdict given) (sheet_words (given_sheet given)) given.sheet
  pub kept : WorkAfter (simulate_verdict given) given.work work'

-- The codes of the sets whose one member is the pattern's excitation.
pub record PatternCodes (inputs : ℕ) (pattern codes : List ℕ) : Type 0 where
  pub at : (net : ℕ) → net < inputs → get_or codes net 0 ≡ code (single (excitation_of (get_or pattern net 0)))

-- A simulation of whichever pattern has the codes' sets as its single sets.
abbrev pub SinglesEvaluated : Setting → List ℕ → Currents → List ℕ → Type 0
SinglesEvaluated setting codes answer words =
    (pattern : List Excitation) → sets_in setting.inputs codes ≡ map single pattern
    → Evaluated setting.table.now (simulated_sheet setting.file.now pattern) answer words
