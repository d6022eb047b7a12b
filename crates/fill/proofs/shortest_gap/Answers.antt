-- `fill::shortest_gap` meets its contract. The loop's invariant: of the shortest gap so far and the gaps between the runs that are left
-- the shortest is that of the row.
-- Assumes nothing.
use native.Mathlib.Omega.{arith}
use Rattle.fill.proofs.Walks.{walk_first_gap, walk_on, walk_more, walk_done}
use Rattle.fill.proofs.shortest_gap.Goals as goal

pub loop-next-init : goal.loop-next-init
loop-next-init c = walk_first_gap _ _ _ _ c.next_at-first.ensures c.next_at-end.ensures c.next_at-next.ensures c.requires

pub loop-next-smaller : goal.loop-next-smaller
loop-next-smaller c =
    let early = c.loop-next-test.true in
    omega (arith, walk_on _ _ _ _ c.loop-next.invariant early _ _ c.next_at-end-in-loop-next.ensures c.next_at-next-in-loop-next.ensures)

pub loop-next-preserved : goal.loop-next-preserved
loop-next-preserved c =
    let early = c.loop-next-test.true in
    let one_more = walk_more _ _ _ _ c.loop-next.invariant early _ _ c.next_at-end-in-loop-next.ensures c.next_at-next-in-loop-next.ensures in
    one_more _ c.shorter-shortest.ensures

pub returns : goal.returns
returns c = walk_done _ _ _ _ c.loop-next.invariant (omega arith)
