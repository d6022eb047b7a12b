-- `split_order::by_bounds::untried_keys` meets its contract. The loop's invariant: the numbers of the nets below net are made.
-- Assumes nothing.
use mathlib.Core.Path.{◌≡◌}
use lib.ListN.{length}
use Rattle.split_order.specs.Sorting.{KeysMade}
use Rattle.split_order.specs.Trying.{UntriedKey}
use Rattle.split_order.proofs.by_bounds.untried_keys.Given as goal

abbrev pub invariant-loop-net : goal.invariant-loop-net
invariant-loop-net l = (length l.keys ≡ 64) × KeysMade (UntriedKey l.codes) l.net l.keys
