-- What Envelope answers: the file is refused, another argument is refused, or the call is accepted.
-- Assumes nothing.
use Rattle.block.specs.declared.verdict.Reason.TheVariants.{WrongHopLimit, WrongBuffer}
use Rattle.std.specs.Prelude.{Result, Ok, Err}
use Rattle.block.specs.Verdict.{Verdict, Accepted}
use Rattle.block.specs.declared.Counts.{Counts}
use Prim.Native.Nat.{ℕ, ◌*◌, ◌≤◌}
use mathlib.Core.List.{List, ◌++◌}
use mathlib.Core.Path.{◌≡◌, refl, ap}
use lib.ListN.{length}
use borrow.Author.Tests.{eqb-true, leb-true}
use Rattle.block.specs.Block.{input_count}
use Rattle.block.specs.Record.{net_count}
use Rattle.block.specs.Refusals.{read_checks, read_of}
use Rattle.block.specs.Verdict.{Check, verdict}
use Rattle.block.specs.declared.verdict.Refusal.{Refusal}
use Rattle.block.proofs.Fields.{within_low}
use Rattle.block.proofs.Verdicts.{listed, listing}
use Rattle.operation.specs.Operation.{answer_after, buffer_after, WorkAfter}
use Rattle.operation.specs.declared.Currents.{Currents}
use Rattle.operation.proofs.Operations.{by_file, by_arguments}
use Rattle.sheet.specs.Sheet.{sheet_words}
use Rattle.evaluation.specs.Evaluation.{currents_of, Evaluated}
use Rattle.envelope.specs.Envelope.{EnvelopeArguments, argument_checks, envelope_verdict, given_sheet, Enveloped}

-- What accepted arguments are.
pub record ArgumentsRight (nets hops table sheet work : ℕ) : Type 0 where
  pub some_hops : 1 ≤ hops
  pub sheet_long : sheet ≡ 8192
  pub work_long : 160 * nets ≤ work

pub arguments_right : (nets hops table sheet work : ℕ) → verdict (argument_checks nets hops table sheet work) ≡ Accepted
    → ArgumentsRight nets hops table sheet work
unfolding argument_checks
arguments_right nets hops table sheet work e = record {
  some_hops = within_low 1 16 hops (listed _ e WrongHopLimit 0 _ (search listing));
  sheet_long = eqb-true sheet 8192 (listed _ e WrongBuffer 1 _ (search listing));
  work_long = leb-true (160 * nets) work (listed _ e WrongBuffer 3 _ (search listing));
}

module _ (given : EnvelopeArguments) {read : Result Counts Refusal} (is : read ≡ read_of given.file) where
  abbrev checks : ℕ → ℕ → List Check
  checks nets inputs = argument_checks nets given.hops (length given.table) (length given.sheet) (length given.work)

  -- What Envelope promises, by the verdict.
  abbrev Promised : Result Currents Refusal → List ℕ → List ℕ → Verdict → Type 0
  Promised r sheet' work' v =
      (r ≡ answer_after v (currents_of given.table (given_sheet given)))
      × (sheet' ≡ buffer_after v (sheet_words (given_sheet given)) given.sheet)
      × WorkAfter v given.work work'

  enveloped : (r : Result Currents Refusal) (sheet' work' : List ℕ)
      → Promised r sheet' work' (verdict (read_checks given.file ++ checks (net_count given.file) (input_count given.file)))
      → Enveloped given r sheet' work'
  unfolding envelope_verdict
  enveloped r sheet' work' p = record { answered = p.0; written = p.1; kept = p.2 }

  pub file_refused : (r : Refusal) {a : Result Currents Refusal} → read ≡ Err r → a ≡ Err r → Enveloped given a given.sheet given.work
  file_refused r told answered = enveloped _ _ _ (by_file given.file checks (Promised _ _ _) is told (answered, refl, refl))

  module _ (found : Counts) (told : read ≡ Ok found) {v : Verdict} (checked : v ≡ verdict (checks found.nets found.inputs)) where
    pub argument_refused : (r : Refusal) {a : Result Currents Refusal} → v ≡ Err r → a ≡ Err r → Enveloped given a given.sheet given.work
    argument_refused r said answered = enveloped _ _ _ (by_arguments given.file checks (Promised _ _ _) is told checked said (answered, refl, refl))

    pub call_accepted : (currents : Currents) (sheet' work' : List ℕ) → v ≡ Accepted
        → Evaluated given.table (given_sheet given) currents sheet' → Enveloped given (Ok currents) sheet' work'
    call_accepted currents sheet' work' said e =
        enveloped _ _ _ (by_arguments given.file checks (Promised _ _ _) is told checked said (ap Ok e.answered, e.written, tt))
