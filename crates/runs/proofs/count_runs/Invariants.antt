-- `runs::count_runs` meets its contract.
-- Assumes nothing.
use Rattle.runs.proofs.Begins.{Counted}
use Rattle.runs.proofs.count_runs.Given as goal

abbrev pub invariant-loop-word : goal.invariant-loop-word
invariant-loop-word l = Counted l.row l.word-index l.count l.before
