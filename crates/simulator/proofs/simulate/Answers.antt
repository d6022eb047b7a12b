-- `simulator::simulate` meets its contract.
-- Assumes nothing.
use mathlib.Core.Path.{refl, sym, ◌∙◌}
use native.Mathlib.Omega.{arith}
use Rattle.block.proofs.Verdicts.{handed_on, refused_first, accepted_first}
use Rattle.operation.proofs.Operations.{file_accepted}
use Rattle.simulator.proofs.Answers.{sizes_right, file_refused, argument_refused, call_accepted}
use Rattle.simulator.proofs.simulate.Goals as goal

pub returns-in_err-nets : goal.returns-in_err-nets
returns-in_err-nets c = file_refused _ c.read.ensures _ c.in_err-nets.was (handed_on c.from_residual.ensures.1 refl)

pub returns-in_err-check_sizes : goal.returns-in_err-check_sizes
returns-in_err-check_sizes c =
    argument_refused _ c.read.ensures _ c.in_ok-nets.was _ (refused_first _ _ _ (sym c.check_sizes.ensures ∙ c.in_err-check_sizes.was))
    (handed_on c.from_residual-in_err-check_sizes.ensures.1 refl)

pub check_pattern-requires : goal.check_pattern-requires
check_pattern-requires c =
    let file = file_accepted c.read.ensures c.in_ok-nets.was in
    let right = sizes_right _ _ _ _ _ (sym c.check_sizes.ensures ∙ c.in_ok-check_sizes.was) in
    (omega (arith, file.whole, file.inputs_first), file.few_inputs, right.pattern_long)

pub returns-in_err-check_pattern : goal.returns-in_err-check_pattern
returns-in_err-check_pattern c =
    argument_refused _ c.read.ensures _ c.in_ok-nets.was _
    (accepted_first _ _ (sym c.check_sizes.ensures ∙ c.in_ok-check_sizes.was) ∙ sym c.check_pattern.ensures ∙ c.in_err-check_pattern.was)
    (handed_on c.from_residual-in_err-check_pattern.ensures.1 refl)

pub invariant_of-setting : goal.invariant_of-setting
invariant_of-setting c = record { accepted = file_accepted c.read.ensures c.in_ok-nets.was; some_hops = omega arith }

pub evaluate_pattern-requires : goal.evaluate_pattern-requires
evaluate_pattern-requires c =
    let file = file_accepted c.read.ensures c.in_ok-nets.was in
    let right = sizes_right _ _ _ _ _ (sym c.check_sizes.ensures ∙ c.in_ok-check_sizes.was) in
    (record { sheet_long = right.sheet_long; rows = record { whole = right.work_long; numbered = file.few_nets } }, right.pattern_long)

pub returns : goal.returns
returns c =
    call_accepted _ c.read.ensures _ c.in_ok-nets.was _ _ _
    (accepted_first _ _ (sym c.check_sizes.ensures ∙ c.in_ok-check_sizes.was) ∙ sym c.check_pattern.ensures ∙ c.in_ok-check_pattern.was)
    c.evaluate_pattern.ensures
