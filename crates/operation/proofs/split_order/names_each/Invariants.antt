-- `operation::split_order::names_each` meets its contract. The loop's invariant: each of the first nets is named once.
-- Assumes nothing.
use Prim.Native.Nat.{◌-◌, ◌≤◌}
use mathlib.Core.Bool.{true}
use mathlib.Core.Path.{◌≡◌}
use lib.Dec.{eqb}
use Rattle.laws.specs.Below.{all_below}
use Rattle.operation.specs.SplitOrder.{times_named}
use Rattle.operation.proofs.split_order.names_each.Given as goal

abbrev pub invariant-loop-net : goal.invariant-loop-net
invariant-loop-net l = (l.net ≤ l.inputs) × (all_below l.net (λ n. eqb (times_named l.order n) 1) ≡ true)
