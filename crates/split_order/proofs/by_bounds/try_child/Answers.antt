-- `split_order::by_bounds::try_child` meets its contract.
-- Assumes nothing.
use mathlib.Core.Bool.{not}
use mathlib.Core.Path.{ap, subst, sym}
use native.Mathlib.Omega.{arith}
use Rattle.excitation.specs.Excitation.{byte_of}
use Rattle.excitation.proofs.Bytes.{byte_low, byte_back}
use Rattle.cases.proofs.Children.{child_coded}
use Rattle.cases.specs.Records.{SetCodes}
use Rattle.bounds.specs.Bounds.{pattern_drop, case_drop, own_upper}
use Rattle.split_order.proofs.Trying.{tried_skipped, tried_more}
use Rattle.split_order.proofs.by_bounds.try_child.Goals as goal

pub returns-then-not-contains : goal.returns-then-not-contains
returns-then-not-contains c =
    let setting = c.args.setting in
    tried_skipped (pattern_drop setting) (case_drop setting) setting.inputs _ c.args.input.0 c.requires.2
    (byte_of c.args.e) (sym (byte_back c.args.e)) c.contains.ensures c.requires.4 (ap not c.if-not-contains.true)

pub evaluate_case-own-requires : goal.evaluate_case-own-requires
evaluate_case-own-requires c =
    let coded = c.child_codes-codes.ensures in
    let few = c.args.setting.accepted.few_inputs in (
      c.requires.0,
      subst (SetCodes c.args.setting.inputs) (sym coded) (child_coded _ few c.args.frame.now c.told-frame c.args.input.0 c.requires.2 c.args.e c.requires.1),
    )

pub returns : goal.returns
unfolding own_upper
returns c =
    let e = c.args.e in
    let setting = c.args.setting in
    let own = c.evaluate_case-own.ensures in
    tried_more (pattern_drop setting) (case_drop setting) setting.inputs _ c.args.input.0 c.requires.2 (byte_of e) (sym (byte_back e)) c.contains.ensures
    c.requires.4 setting.accepted.few_inputs c.told-frame (let low = byte_low e in omega arith) (ap not c.if-not-contains.false)
    c.child_codes-codes.ensures c.requires.3 own.is own.low c.min.ensures c.put.ensures
