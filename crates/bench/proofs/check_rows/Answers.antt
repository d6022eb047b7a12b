-- `bench::check_rows` meets its contract. The loop's invariant: the verdict on the rows from here on is the verdict on all of them.
-- Assumes nothing.
use mathlib.Core.Path.{sym, ◌∙◌}
use native.Mathlib.Omega.{arith}
use Rattle.block.proofs.Verdicts.{handed_on}
use Rattle.bench.proofs.Rows.{rows_refused, rows_next, rows_end}
use Rattle.bench.proofs.check_rows.Goals as goal

pub returns-in_err-check : goal.returns-in_err-check
returns-in_err-check c =
    let l = c.loop-row in
    handed_on c.from_residual.ensures.1 (rows_refused _ _ (omega arith) c.check.ensures c.row_in_range.ensures c.in_err-check.was ∙ l.invariant)

pub loop-row-preserved : goal.loop-row-preserved
loop-row-preserved c =
    let l = c.loop-row in
    rows_next _ _ (omega arith) c.check.ensures c.row_in_range.ensures c.in_ok-check.was ∙ l.invariant

pub returns : goal.returns
returns c = sym (rows_end _ _ (omega arith)) ∙ c.loop-row.invariant
