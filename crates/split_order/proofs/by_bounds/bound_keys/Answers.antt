-- `split_order::by_bounds::bound_keys` meets its contract.
-- Assumes nothing.
use mathlib.Core.Path.{◌∙◌}
use native.Mathlib.Omega.{arith}
use Rattle.excitation.specs.UncertaintySet.{decode}
use Rattle.cases.specs.Case.{undecided}
use Rattle.bounds.specs.Bounds.{pattern_drop, case_drop}
use Rattle.split_order.proofs.Trying.{counted_below, tried_sorts, untried_sorts}
use Rattle.split_order.proofs.by_bounds.bound_keys.Goals as goal

pub returns-then-undecided_inputs-lt2 : goal.returns-then-undecided_inputs-lt2
returns-then-undecided_inputs-lt2 c =
    let setting = c.args.setting in
    untried_sorts (pattern_drop setting) (case_drop setting) setting.inputs _ _
    (c.undecided_inputs.ensures ∙ counted_below (λ code. undecided (decode code)) c.args.frame.now setting.inputs
    (omega (arith, setting.accepted.few_inputs, c.told-frame)))
    c.if-undecided_inputs-lt2.true c.untried_keys.ensures

pub returns : goal.returns
returns c =
    let setting = c.args.setting in
    tried_sorts (pattern_drop setting) (case_drop setting) setting.inputs _ _ c.tried_keys.ensures
