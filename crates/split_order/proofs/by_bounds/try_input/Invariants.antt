-- `split_order::by_bounds::try_input` meets its contract. The loop's invariant: the children of the excitations passed are tried.
-- Assumes nothing.
use mathlib.Core.Path.{◌≡◌}
use Rattle.split_order.specs.Trying.{TriedBelow}
use lib.ListN.{length}
use Rattle.split_order.proofs.by_bounds.try_input.Given as goal

abbrev pub invariant-loop-e : goal.invariant-loop-e
invariant-loop-e l = TriedBelow l.setting l.frame l.input.0 l.e-index l.tried × (length l.sheet ≡ length l.initial.sheet) × (length l.work ≡ length l.initial.work)
