-- `operation::split_order::times_named` meets its contract. The loop's invariant: what is counted and what is left to count make the whole.
-- Assumes nothing.
use Prim.Native.Nat.{◌+◌, ◌-◌, ◌≤◌}
use mathlib.Core.Path.{◌≡◌}
use lib.ListN.{length, drop}
use Rattle.operation.specs.SplitOrder.{times_named}
use Rattle.operation.proofs.split_order.times_named.Given as goal

abbrev pub invariant-loop-k : goal.invariant-loop-k
invariant-loop-k l = (l.k ≤ length l.order) × (l.times ≤ l.k) × (l.times + times_named (drop l.k l.order) l.net.0 ≡ times_named l.order l.net.0)
