-- `bench::overflow::judge_later` meets its contract. The loop's invariant: the lines before `rest` are judged, and all accepted.
-- Assumes nothing.
use lib.ListN.{length}
use Rattle.bench.proofs.LaterLines.{LinesJudged}
use Rattle.bench.proofs.overflow.judge_later.Given as goal

abbrev pub invariant-loop-bytes : goal.invariant-loop-bytes
invariant-loop-bytes l = LinesJudged l.progress.rest.now l.names l.progress.number l.gates l.rest l.passed l.after l.more

abbrev pub decreases-loop-bytes : goal.decreases-loop-bytes
decreases-loop-bytes l = length l.rest
