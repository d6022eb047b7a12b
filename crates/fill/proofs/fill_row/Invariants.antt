-- `fill::fill_row` meets its contract. The loop's invariant: filling the gaps that are left comes to what filling all of them does, and
-- each turn leaves one run less.
-- Assumes nothing.
use Prim.Native.Nat.{◌+◌}
use mathlib.Core.Path.{◌≡◌}
use lib.ListN.{length}
use Rattle.runs.specs.Rows.{runs_in}
use Rattle.fill.proofs.Filling.{Filling}
use Rattle.fill.proofs.fill_row.Given as goal

abbrev pub invariant-loop : goal.invariant-loop
invariant-loop l = Filling l.hops l.initial.row l.row × (length (runs_in l.row) + l.counter ≡ l.count + l.hops)
