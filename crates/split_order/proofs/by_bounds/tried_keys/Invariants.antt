-- `split_order::by_bounds::tried_keys` meets its contract. The loop's invariant: the numbers of the nets below net are written.
-- Assumes nothing.
use mathlib.Core.Path.{◌≡◌}
use lib.ListN.{length}
use Rattle.split_order.specs.Sorting.{KeysMade}
use Rattle.split_order.specs.Trying.{TriedKey}
use Rattle.split_order.proofs.by_bounds.tried_keys.Given as goal

abbrev pub invariant-loop-net : goal.invariant-loop-net
invariant-loop-net l = (length l.keys ≡ 64) × KeysMade (TriedKey l.setting l.frame) l.net l.keys × (length l.sheet ≡ 8192) × (length l.work ≡ length l.initial.work)
