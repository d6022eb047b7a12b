-- `search::split::split` meets its contract. The loop's invariant: the children of the excitations passed are made.
-- Assumes nothing.
use mathlib.Core.Path.{refl, ◌∙◌}
use native.Mathlib.Omega.{arith}
use Rattle.cases.proofs.Children.{in_order_is}
use Rattle.cases.proofs.Records.{codes_copied, copied_long, has_case}
use Rattle.evaluation.proofs.Given.{evaluable_kept}
use Rattle.search.proofs.Splitting.{child_room, parent_below, splitting_begun, splitting_next, case_split}
use Rattle.search.proofs.split.split.Goals as goal

pub choose-input-requires : goal.choose-input-requires
choose-input-requires c =
    let accepted = c.args.setting.accepted in
    let long = copied_long (has_case c.requires.1.cases c.requires.2.inside) c.read_sets-parent.ensures in
    (accepted.one_input, omega (arith, accepted.few_inputs, long), c.requires.3)

pub loop-e-init : goal.loop-e-init
loop-e-init c = (refl, refl, splitting_begun c.requires.1)

pub make_child-step-requires : goal.make_child-step-requires
make_child-step-requires c =
    let at = c.loop-e in
    let ready = c.requires.0 in
    let copied = c.read_sets-parent.ensures in
    let below = c.loop-e-test.true in
    let room = child_room c.requires.2.inside below c.requires.5 c.requires.4 at.invariant.2 in (
      evaluable_kept ready at.invariant.0 at.invariant.1,
      codes_copied c.args.setting.inputs c.args.setting.accepted.few_inputs c.args.store.now c.args.k.0 _ copied
          (c.requires.1.cases.codes c.args.k.0 c.requires.2.inside),
      c.choose-input.ensures.1,
      at.invariant.2.best.long ∙ c.requires.1.pattern_long,
      room,
      at.invariant.2.best.threshold_high,
      parent_below c.requires.1 c.requires.2.inside c.requires.6 copied at.invariant.2,
    )

pub loop-e-preserved : goal.loop-e-preserved
loop-e-preserved c =
    let made = c.make_child-step in
    let at = c.loop-e in
    let copied = c.read_sets-parent.ensures in (
      made.auto.sheet ∙ at.invariant.0,
      made.auto.work ∙ at.invariant.1,
      splitting_next c.requires.2.inside c.loop-e-test.true c.requires.5 c.requires.4 at.invariant.2
          (copied_long (has_case c.requires.1.cases c.requires.2.inside) copied)
          (codes_copied c.args.setting.inputs c.args.setting.accepted.few_inputs c.args.store.now c.args.k.0 _ copied
          (c.requires.1.cases.codes c.args.k.0 c.requires.2.inside))
          c.choose-input.ensures.1 (rw (in_order_is at.e-index) at made.ensures),
    )

pub returns : goal.returns
returns c =
    let done = c.loop-e in
    case_split c.args.order.now c.requires.1 c.requires.2 c.read_sets-parent.ensures c.choose-input.ensures.0
    (omega arith) done.invariant.2
