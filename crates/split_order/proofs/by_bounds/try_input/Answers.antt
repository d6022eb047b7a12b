-- `split_order::by_bounds::try_input` meets its contract. The loop's invariant: the children of the excitations passed are tried.
-- Assumes nothing.
use mathlib.Core.Bool.{not}
use mathlib.Core.Path.{ap, sym, subst, refl, ◌∙◌}
use Rattle.split_order.specs.Trying.{TriedBelow}
use native.Mathlib.Omega.{arith}
use Rattle.evaluation.proofs.Given.{evaluable_kept}
use Rattle.cases.proofs.Children.{in_order_byte}
use Rattle.bounds.specs.Bounds.{pattern_drop, case_drop}
use Rattle.split_order.proofs.Trying.{tried_none, tried_key}
use Rattle.split_order.proofs.by_bounds.try_input.Goals as goal

pub loop-e-init : goal.loop-e-init
loop-e-init c = (
  subst (TriedBelow c.args.setting c.args.frame.now c.args.input.0 0) (sym c.alone-tried.ensures)
      (tried_none (pattern_drop c.args.setting) (case_drop c.args.setting) c.args.setting.inputs _ c.args.input.0),
  refl,
  refl,
)

pub try_child-tried-requires : goal.try_child-tried-requires
try_child-tried-requires c =
    let inv = c.loop-e.invariant in (
      evaluable_kept c.requires.0 inv.1 inv.2,
      c.requires.1,
      c.requires.2,
      c.requires.3,
      rw (in_order_byte c.loop-e.e-index c.loop-e-test.true) inv.0,
    )

pub loop-e-preserved : goal.loop-e-preserved
loop-e-preserved c =
    let inv = c.loop-e.invariant in
    let tried = c.try_child-tried in
    (rw (in_order_byte c.loop-e.e-index c.loop-e-test.true) at tried.ensures, tried.auto.sheet ∙ inv.1, tried.auto.work ∙ inv.2)

pub returns : goal.returns
returns c =
    let setting = c.args.setting in
    tried_key (pattern_drop setting) (case_drop setting) setting.inputs _ c.args.input.0 (omega arith)
    c.is_undecided.ensures (ap not c.if-not-is_undecided.false) c.loop-e.invariant.0
