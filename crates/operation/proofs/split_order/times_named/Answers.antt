-- `operation::split_order::times_named` meets its contract. The loop's invariant: what is counted and what is left to count make the whole.
-- Assumes nothing.
use native.Mathlib.Omega.{arith}
use Rattle.operation.proofs.SplitOrders.{times_here, times_other, times_end}
use Rattle.operation.proofs.split_order.times_named.Goals as goal
use Rattle.operation.proofs.split_order.times_named.Goals.{then-from-net, else-from-net}

pub loop-k-init : goal.loop-k-init
loop-k-init c = (omega arith, omega arith, omega arith)

pub loop-k-preserved : goal.loop-k-preserved
loop-k-preserved c =
    let inv = c.loop-k.invariant in
    let k = c.loop-k.k in
    let args = c.args in
    let order = args.order.now in
    let net = args.net.0 in
    let taken = c.loop-k-test.true in
    let x = c.from.ensures in
    elim c.if-from-net.branch [
      | then-from-net w ↦
          (omega arith, omega (arith, inv.1, w.times-is), omega (arith, inv.2, w.times-is, times_here order net k c.from.result taken x w.if-from-net.true))
      | else-from-net w ↦
          (omega arith, omega (arith, inv.1, w.times-is), omega (arith, inv.2, w.times-is, times_other order net k c.from.result taken x w.if-from-net.false))
    ]

pub returns : goal.returns
returns c =
    let order = c.args.order.now in
    let inv = c.loop-k.invariant in
    (omega (arith, inv.2, times_end order c.args.net.0 c.loop-k.k (omega arith)), omega (arith, inv.0, inv.1))
