-- `search::split::split` meets its contract. The loop's invariant: the children of the excitations passed are made.
-- Assumes nothing.
use mathlib.Core.Path.{◌≡◌}
use lib.ListN.{length}
use Rattle.search.proofs.Splitting.{Splitting}
use Rattle.search.proofs.split.split.Given as goal

abbrev pub invariant-loop-e : goal.invariant-loop-e
invariant-loop-e l =
    (length l.sheet ≡ length l.initial.sheet) × (length l.work ≡ length l.initial.work)
    × Splitting l.setting l.parent l.input.0 l.initial.step.next.0 l.cap l.n l.threshold l.initial.store l.initial.pattern l.e-index l.step.cases l.step.next.0 l.step.threshold l.store l.pattern
