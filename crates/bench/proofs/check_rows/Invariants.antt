-- `bench::check_rows` meets its contract. The loop's invariant: the verdict on the rows from here on is the verdict on all of them.
-- Assumes nothing.
use Prim.Native.Nat.{◌-◌}
use mathlib.Core.Path.{◌≡◌}
use Rattle.block.specs.Verdict.{verdict}
use Rattle.bench.specs.Checks.{rows_from}
use Rattle.bench.proofs.check_rows.Given as goal

abbrev pub invariant-loop-row : goal.invariant-loop-row
invariant-loop-row l = verdict (rows_from l.list l.row (8 - l.row)) ≡ verdict (rows_from l.list 0 8)
