-- `split_order::reach::reached_gates` meets its contract. The loop's invariant: how many gates below the next net have the input's bit.
-- Assumes nothing.
use mathlib.Core.Path.{◌≡◌}
use Rattle.split_order.specs.Reach.{reached_gates}
use Rattle.split_order.proofs.reach.reached_gates.Given as goal

abbrev pub invariant-loop-net : goal.invariant-loop-net
invariant-loop-net l =
    (l.count ≡ reached_gates l.words l.net l.inputs l.source.0)
