-- `runs::set_range` meets its contract.
-- Assumes nothing.
use native.Mathlib.Omega.{arith}
use Rattle.runs.proofs.Ranges.{range_more, range_set}
use Rattle.runs.proofs.set_range.Goals as goal

pub loop-w-preserved : goal.loop-w-preserved
loop-w-preserved c =
    let to = c.ticks_before in
    let from = c.ticks_before-in-loop-w in
    range_more _ _ _ _ _ _ _ c.loop-w.invariant (omega arith) from.type_inv to.ensures from.ensures

pub returns : goal.returns
returns c = range_set _ _ _ _ _ c.loop-w.invariant (omega arith)
