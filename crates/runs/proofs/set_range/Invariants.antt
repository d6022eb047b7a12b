-- `runs::set_range` meets its contract.
-- Assumes nothing.
use Rattle.runs.proofs.Ranges.{RangeSoFar}
use Rattle.runs.proofs.set_range.Given as goal

abbrev pub invariant-loop-w : goal.invariant-loop-w
invariant-loop-w l = RangeSoFar l.from l.to l.initial.row l.w l.row
