-- `bench::walk::begin` meets its contract. The loop's invariant: the lines before `rest` are taken.
-- Assumes nothing.
use mathlib.Core.Path.{refl}
use Rattle.block.proofs.Verdicts.{handed_on}
use Rattle.bench.proofs.Lines.{none_taken, taken_refused, taken_next}
use Rattle.bench.proofs.walk.begin.Goals as goal

pub loop-table-init : goal.loop-table-init
loop-table-init c = none_taken _ _ _ c.requires.0 c.requires.1

pub returns-in_err-take_line : goal.returns-in_err-take_line
returns-in_err-take_line c =
    rw (handed_on c.from_residual.ensures.1 refl)
    (taken_refused c.loop-table.invariant c.in-Some.ensures.first c.take_line.ensures c.in_err-take_line.was)

pub loop-table-preserved : goal.loop-table-preserved
loop-table-preserved c = taken_next c.loop-table.invariant c.in-Some.ensures.first c.take_line.ensures c.in_ok-take_line.was
