-- `operation::split_order::names_each` meets its contract. The loop's invariant: each of the first nets is named once.
-- Assumes nothing.
use mathlib.Core.Path.{◌≡◌, refl, sym, ◌∙◌}
use native.Mathlib.Omega.{arith}
use lib.Dec.{eqb}
use lib.ListN.{length}
use borrow.Author.Tests.{eq-eqb, ne_eqb}
use Rattle.laws.specs.Below.{all_below}
use Rattle.laws.proofs.Below.{all_next, all_fails}
use Rattle.laws.proofs.Tests.{and_both, and_second_fails}
use Rattle.operation.specs.SplitOrder.{times_named, names_each}
use Rattle.operation.proofs.split_order.names_each.Goals as goal

pub returns-then-order-inputs : goal.returns-then-order-inputs
unfolding names_each
returns-then-order-inputs c = rw (ne_eqb _ _ c.if-order-inputs.true) refl

pub loop-net-init : goal.loop-net-init
unfolding all_below
loop-net-init c = (omega arith, refl)

pub returns-then-times_named-ne1 : goal.returns-then-times_named-ne1
unfolding names_each
returns-then-times_named-ne1 c =
    sym (and_second_fails (eqb (length c.args.order.now) c.args.inputs)
    (all_fails c.args.inputs (λ net. eqb (times_named c.args.order.now net) 1) _ c.loop-net-test.true
    (ne_eqb _ 1 (λ e. c.if-times_named-ne1.true (c.times_named.ensures.0 ∙ e)))))

pub loop-net-preserved : goal.loop-net-preserved
loop-net-preserved c =
    (omega arith, all_next _ _ c.loop-net.invariant.1 (eq-eqb _ 1 (sym c.times_named.ensures.0 ∙ c.if-times_named-ne1.false)))

pub returns : goal.returns
unfolding names_each
returns c =
    let e : c.loop-net.net ≡ c.args.inputs = omega arith in
    sym (and_both (eq-eqb _ _ c.if-order-inputs.false) (rw e at c.loop-net.invariant.1))
