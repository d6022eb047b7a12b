-- What Simulate answers: the file is refused, another argument is refused, or the call is accepted.
-- Assumes nothing.
use Rattle.block.specs.declared.verdict.Reason.TheVariants.{WrongBuffer}
use Rattle.std.specs.Prelude.{Result, Ok, Err}
use Rattle.block.specs.Verdict.{Verdict, Accepted}
use Rattle.block.specs.declared.Counts.{Counts}
use Prim.Native.Nat.{ℕ, ◌*◌, ◌≤◌}
use mathlib.Core.List.{List, ◌++◌}
use mathlib.Core.Path.{◌≡◌, refl, ap}
use lib.ListN.{length}
use borrow.Author.Tests.{eqb-true, leb-true}
use Rattle.block.specs.Block.{input_count}
use Rattle.block.specs.Record.{net_count}
use Rattle.block.specs.Refusals.{read_checks, read_of}
use Rattle.block.specs.Verdict.{Check, verdict}
use Rattle.block.specs.declared.verdict.Refusal.{Refusal}
use Rattle.block.proofs.Verdicts.{listed, listing}
use Rattle.operation.specs.Operation.{answer_after, buffer_after, WorkAfter}
use Rattle.operation.specs.Pattern.{byte_checks}
use Rattle.operation.specs.declared.Currents.{Currents}
use Rattle.operation.proofs.Operations.{by_file, by_arguments}
use Rattle.sheet.specs.Sheet.{sheet_words}
use Rattle.evaluation.specs.Evaluation.{currents_of, Evaluated}
use Rattle.simulator.specs.Simulate.{SimulateArguments, size_checks, simulate_verdict, given_sheet, Simulated}

-- What accepted sizes are.
pub record SizesRight (nets table sheet pattern work : ℕ) : Type 0 where
  pub sheet_long : sheet ≡ 8192
  pub pattern_long : pattern ≡ 64
  pub work_long : 160 * nets ≤ work

pub sizes_right : (nets table sheet pattern work : ℕ) → verdict (size_checks nets table sheet pattern work) ≡ Accepted
    → SizesRight nets table sheet pattern work
unfolding size_checks
sizes_right nets table sheet pattern work e = record {
  sheet_long = eqb-true sheet 8192 (listed _ e WrongBuffer 1 _ (search listing));
  pattern_long = eqb-true pattern 64 (listed _ e WrongBuffer 2 _ (search listing));
  work_long = leb-true (160 * nets) work (listed _ e WrongBuffer 3 _ (search listing));
}

module _ (given : SimulateArguments) {read : Result Counts Refusal} (is : read ≡ read_of given.file) where
  abbrev checks : ℕ → ℕ → List Check
  checks nets inputs =
      size_checks nets (length given.table) (length given.sheet) (length given.pattern) (length given.work)
      ++ byte_checks given.file given.pattern inputs

  -- What Simulate promises, by the verdict.
  abbrev Promised : Result Currents Refusal → List ℕ → List ℕ → Verdict → Type 0
  Promised r sheet' work' v =
      (r ≡ answer_after v (currents_of given.table (given_sheet given)))
      × (sheet' ≡ buffer_after v (sheet_words (given_sheet given)) given.sheet)
      × WorkAfter v given.work work'

  simulated : (r : Result Currents Refusal) (sheet' work' : List ℕ)
      → Promised r sheet' work' (verdict (read_checks given.file ++ checks (net_count given.file) (input_count given.file)))
      → Simulated given r sheet' work'
  unfolding simulate_verdict
  simulated r sheet' work' p = record { answered = p.0; written = p.1; kept = p.2 }

  pub file_refused : (r : Refusal) {a : Result Currents Refusal} → read ≡ Err r → a ≡ Err r → Simulated given a given.sheet given.work
  file_refused r told answered = simulated _ _ _ (by_file given.file checks (Promised _ _ _) is told (answered, refl, refl))

  module _ (found : Counts) (told : read ≡ Ok found) where
    pub argument_refused : (r : Refusal) {a : Result Currents Refusal} → verdict (checks found.nets found.inputs) ≡ Err r → a ≡ Err r
        → Simulated given a given.sheet given.work
    argument_refused r said answered = simulated _ _ _ (by_arguments given.file checks (Promised _ _ _) is told refl said (answered, refl, refl))

    pub call_accepted : (currents : Currents) (sheet' work' : List ℕ) → verdict (checks found.nets found.inputs) ≡ Accepted
        → Evaluated given.table (given_sheet given) currents sheet' → Simulated given (Ok currents) sheet' work'
    call_accepted currents sheet' work' said e =
        simulated _ _ _ (by_arguments given.file checks (Promised _ _ _) is told refl said (ap Ok e.answered, e.written, tt))
