-- `search::run::run` meets its contract. The loop's invariant: what is left of the search is what is left of it from the first case on.
-- Assumes nothing.
use Prim.Native.Nat.{◌-◌}
use mathlib.Core.Path.{◌≡◌}
use lib.ListN.{length}
use Rattle.search.proofs.Running.{Reached}
use Rattle.search.proofs.run.run.Given as goal

abbrev pub invariant-loop-end : goal.invariant-loop-end
invariant-loop-end l =
    Reached l.setting l.order l.limits.ratio l.limits.budget l.threshold l.initial.store l.initial.pattern l.cases l.best l.splits l.store l.pattern × (length l.sheet ≡ length l.initial.sheet) × (length l.work ≡ length l.initial.work)

abbrev pub decreases-loop-end : goal.decreases-loop-end
decreases-loop-end l =
    l.limits.budget - l.splits
