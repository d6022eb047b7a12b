-- `split_order::by_bounds::bound_order` meets its contract.
-- Assumes nothing.
use mathlib.Core.Path.{refl, sym, ◌∙◌}
use Rattle.block.proofs.Verdicts.{handed_on}
use Rattle.operation.proofs.Operations.{file_accepted}
use Rattle.split_order.proofs.ByBounds.{arguments_right, file_refused, argument_refused, list_made}
use Rattle.split_order.proofs.by_bounds.bound_order.Goals as goal

pub returns-in_err-nets : goal.returns-in_err-nets
returns-in_err-nets c = file_refused _ c.read.ensures _ c.in_err-nets.was (handed_on c.from_residual.ensures.1 refl)

pub returns-in_err-check_arguments : goal.returns-in_err-check_arguments
returns-in_err-check_arguments c =
    argument_refused _ c.read.ensures _ c.in_ok-nets.was c.check_arguments.ensures _ c.in_err-check_arguments.was
    (handed_on c.from_residual-in_err-check_arguments.ensures.1 refl)

pub invariant_of-setting : goal.invariant_of-setting
invariant_of-setting c = record {
  accepted = file_accepted c.read.ensures c.in_ok-nets.was;
  some_hops = (arguments_right _ _ _ _ (sym c.check_arguments.ensures ∙ c.in_ok-check_arguments.was)).some_hops;
}

pub list_by_bounds-requires : goal.list_by_bounds-requires
list_by_bounds-requires c = record {
  whole = (arguments_right _ _ _ _ (sym c.check_arguments.ensures ∙ c.in_ok-check_arguments.was)).work_long;
  numbered = (file_accepted c.read.ensures c.in_ok-nets.was).few_nets;
}

pub returns : goal.returns
returns c = list_made _ c.read.ensures _ c.in_ok-nets.was c.check_arguments.ensures c.in_ok-check_arguments.was c.list_by_bounds.ensures
