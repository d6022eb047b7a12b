-- `bench::walk::begin` meets its contract. The loop's invariant: the lines before `rest` are taken.
-- Assumes nothing.
use lib.ListN.{length}
use Rattle.bench.specs.Held.{LinesTaken}
use Rattle.bench.proofs.walk.begin.Given as goal

abbrev pub invariant-loop-table : goal.invariant-loop-table
invariant-loop-table l = LinesTaken l.text l.list l.table l.rest l.number

abbrev pub decreases-loop-table : goal.decreases-loop-table
decreases-loop-table l = length l.rest
