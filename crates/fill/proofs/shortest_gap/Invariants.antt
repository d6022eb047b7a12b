-- `fill::shortest_gap` meets its contract. The loop's invariant: of the shortest gap so far and the gaps between the runs that are left
-- the shortest is that of the row.
-- Assumes nothing.
use Prim.Native.Nat.{◌-◌}
use Rattle.fill.specs.Filling.{gap_of}
use Rattle.fill.proofs.Walks.{Walked}
use Rattle.fill.proofs.shortest_gap.Given as goal

abbrev pub invariant-loop-next : goal.invariant-loop-next
invariant-loop-next l = Walked l.row (gap_of l.shortest) l.end l.next

abbrev pub decreases-loop-next : goal.decreases-loop-next
decreases-loop-next l = 256 - l.next
