-- `envelope::envelope` meets its contract.
-- Assumes nothing.
use mathlib.Core.Path.{refl, sym, ◌∙◌}
use Rattle.block.proofs.Verdicts.{handed_on}
use Rattle.operation.proofs.Operations.{file_accepted}
use Rattle.envelope.proofs.Answers.{arguments_right, file_refused, argument_refused, call_accepted}
use Rattle.envelope.proofs.envelope.Goals as goal

pub returns-in_err-nets : goal.returns-in_err-nets
returns-in_err-nets c = file_refused _ c.read.ensures _ c.in_err-nets.was (handed_on c.from_residual.ensures.1 refl)

pub returns-in_err-check_arguments : goal.returns-in_err-check_arguments
returns-in_err-check_arguments c =
    argument_refused _ c.read.ensures _ c.in_ok-nets.was c.check_arguments.ensures _ c.in_err-check_arguments.was
    (handed_on c.from_residual-in_err-check_arguments.ensures.1 refl)

pub invariant_of-setting : goal.invariant_of-setting
invariant_of-setting c = record {
  accepted = file_accepted c.read.ensures c.in_ok-nets.was;
  some_hops = (arguments_right _ _ _ _ _ (sym c.check_arguments.ensures ∙ c.in_ok-check_arguments.was)).some_hops;
}

pub evaluate_frame-requires : goal.evaluate_frame-requires
evaluate_frame-requires c =
    let file = file_accepted c.read.ensures c.in_ok-nets.was in
    let right = arguments_right _ _ _ _ _ (sym c.check_arguments.ensures ∙ c.in_ok-check_arguments.was) in
    record { sheet_long = right.sheet_long; rows = record { whole = right.work_long; numbered = file.few_nets } }

pub returns : goal.returns
returns c = call_accepted _ c.read.ensures _ c.in_ok-nets.was c.check_arguments.ensures _ _ _ c.in_ok-check_arguments.was c.evaluate_frame.ensures
