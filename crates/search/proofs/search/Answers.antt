-- `search::search` meets its contract.
-- Assumes nothing.
use mathlib.Core.Path.{refl, sym, ◌∙◌}
use Rattle.block.proofs.Verdicts.{handed_on}
use Rattle.operation.proofs.Operations.{file_accepted}
use Rattle.operation.proofs.SplitOrders.{nets_listed}
use Rattle.search.proofs.Accepted.{arguments_right}
use Rattle.search.proofs.Answers.{file_refused, argument_refused, call_accepted}
use Rattle.search.proofs.search.Goals as goal

pub returns-in_err-nets : goal.returns-in_err-nets
returns-in_err-nets c = file_refused _ c.read.ensures _ c.in_err-nets.was (handed_on c.from_residual.ensures.1 refl)

pub returns-in_err-check_arguments : goal.returns-in_err-check_arguments
returns-in_err-check_arguments c =
    argument_refused _ c.read.ensures _ c.in_ok-nets.was c.check_arguments.ensures _ c.in_err-check_arguments.was
    (handed_on c.from_residual-in_err-check_arguments.ensures.1 refl)

pub invariant_of-setting : goal.invariant_of-setting
invariant_of-setting c = record {
  accepted = file_accepted c.read.ensures c.in_ok-nets.was;
  some_hops = (arguments_right _ _ _ _ _ _ _ _ _ _ _ (sym c.check_arguments.ensures ∙ c.in_ok-check_arguments.was)).some_hops;
}

pub invariant_of-limits : goal.invariant_of-limits
invariant_of-limits c =
    let right = arguments_right _ _ _ _ _ _ _ _ _ _ _ (sym c.check_arguments.ensures ∙ c.in_ok-check_arguments.was) in
    record { ratio_high = right.ratio_high; budget_high = right.budget_high }

pub search_block-requires : goal.search_block-requires
search_block-requires c =
    let file = file_accepted c.read.ensures c.in_ok-nets.was in
    let right = arguments_right _ _ _ _ _ _ _ _ _ _ _ (sym c.check_arguments.ensures ∙ c.in_ok-check_arguments.was) in (
      record {
        sheet_long = right.sheet_long;
        rows = record { whole = right.work_long; numbered = file.few_nets };
      },
      right.pattern_long,
      nets_listed _ _ right.order_right,
      right.store_long,
    )

pub returns : goal.returns
returns c = call_accepted _ c.read.ensures _ c.in_ok-nets.was c.check_arguments.ensures _ _ _ _ _ c.in_ok-check_arguments.was c.search_block.ensures
