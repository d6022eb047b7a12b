-- `split_order::reach::reached_gates` meets its contract. The loop's invariant: how many gates below the next net have the input's bit.
-- Assumes nothing.
use native.Mathlib.Omega.{arith}
use Rattle.split_order.proofs.Cones.{reached_none, reached_more, reached_few}
use Rattle.split_order.proofs.reach.reached_gates.Goals as goal

pub loop-net-init : goal.loop-net-init
loop-net-init c = reached_none _ _ _

pub overflow_add-count : goal.overflow_add-count
overflow_add-count c =
    let l = c.loop-net in omega (arith, c.requires.1, reached_few _ _ _ _ _ l.invariant)

pub loop-net-preserved : goal.loop-net-preserved
loop-net-preserved c =
    let l = c.loop-net in
    reached_more _ _ _ l.net l.count l.auto.net l.invariant

pub overflow_cast-result : goal.overflow_cast-result
overflow_cast-result c =
    let l = c.loop-net in omega (arith, c.requires.1, reached_few _ _ _ _ _ l.invariant)
