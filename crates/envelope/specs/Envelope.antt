-- Envelope (document 01, "Envelope" and "Refusals in checking order"): its checks, its answer and its buffers.
use Rattle.std.specs.Prelude.{Result}
use Rattle.block.specs.Verdict.{Verdict}
use Rattle.block.specs.declared.verdict.Refusal.{Refusal}
use Rattle.std.specs.Prelude.{ℕ, List, [], ◌∷◌, ◌++◌, ◌≡◌, length}
use Rattle.block.specs.Block.{frame}
use Rattle.block.specs.Record.{File, net_count}
use Rattle.block.specs.Refusals.{read_checks}
use Rattle.block.specs.Verdict.{Check, verdict}
use Rattle.operation.specs.Arguments.{hops_check, table_check, sheet_check, work_check}
use Rattle.operation.specs.Operation.{answer_after, buffer_after, WorkAfter}
use Rattle.operation.specs.declared.Currents.{Currents}
use Rattle.sheet.specs.Sheet.{Sheet, sheet_words}
use Rattle.evaluation.specs.Evaluation.{envelope_sheet, currents_of}

-- Envelope takes file, hop limit, table, sheet and work buffer, as they are lent.
pub record EnvelopeArguments : Type 0 where
  pub file : File
  pub hops : ℕ
  pub table : List ℕ
  pub sheet : List ℕ
  pub work : List ℕ

-- The checks of the arguments that Envelope has beside the file, by the count of nets and the lengths of table, sheet and work buffer.
unfoldable pub argument_checks : ℕ → ℕ → ℕ → ℕ → ℕ → List Check
argument_checks nets hops table sheet work = hops_check hops ∷ table_check table ∷ sheet_check sheet ∷ work_check nets work ∷ []

-- The verdict on all of Envelope's checks, in order.
unfoldable pub envelope_verdict : EnvelopeArguments → Verdict
envelope_verdict given =
    verdict
    (read_checks given.file
    ++ argument_checks (net_count given.file) given.hops (length given.table) (length given.sheet) (length given.work))

-- The envelope of the whole frame.
abbrev pub frame_sheet : ℕ → File → Sheet
frame_sheet hops file = envelope_sheet hops file (frame file)

abbrev pub given_sheet : EnvelopeArguments → Sheet
given_sheet given = frame_sheet given.hops given.file

-- Envelope's answer: the drop and the quiet tick, or the refusal.
abbrev pub envelope_answer : EnvelopeArguments → Result Currents Refusal
envelope_answer given = answer_after (envelope_verdict given) (currents_of given.table (given_sheet given))

-- What Envelope promises: its answer, and each buffer as it leaves it.
pub record Enveloped (given : EnvelopeArguments) (answer : Result Currents Refusal) (sheet' work' : List ℕ) : Type 0 where
  pub answered : answer ≡ envelope_answer given
  pub written : sheet' ≡ buffer_after (envelope_verdict given) (sheet_words (given_sheet given)) given.sheet
  pub kept : WorkAfter (envelope_verdict given) given.work work'
