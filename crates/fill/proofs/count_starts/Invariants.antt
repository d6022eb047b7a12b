-- `fill::count_starts` meets its contract.
-- Assumes nothing.
use Rattle.fill.proofs.Counting.{StartsCounted}
use Rattle.fill.proofs.count_starts.Given as goal

abbrev pub invariant-loop-part : goal.invariant-loop-part
invariant-loop-part l = StartsCounted l.work l.net l.part l.count l.before
