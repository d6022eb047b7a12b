-- `bench::check_given` meets its contract: the buffer's check comes first, then the list's length, then its rows.
-- Assumes nothing.
use mathlib.Core.Path.{refl, ◌∙◌}
use Rattle.block.proofs.Verdicts.{handed_on}
use Rattle.bench.proofs.Told.{missing, there}
use Rattle.bench.proofs.Rows.{small_refused, long_refused, rows_judged}
use Rattle.bench.proofs.check_given.Goals as goal

pub returns-in_err-check : goal.returns-in_err-check
returns-in_err-check c = rw (handed_on c.from_residual.ensures.1 refl) (small_refused _ _ c.check.ensures c.in_err-check.was)

pub returns-in_err-rows : goal.returns-in_err-rows
returns-in_err-rows c =
    let none = missing _ _ c.ok_or.ensures.value c.in_err-rows.was in
    rw (handed_on c.from_residual-in_err-rows.ensures.1 refl, none.1)
    (long_refused _ _ c.check.ensures c.in_ok-check.was (rw none.0 at c.as_array.ensures.cases))

pub returns-in_err-check_rows : goal.returns-in_err-check_rows
returns-in_err-check_rows c =
    let rows = there _ _ c.ok_or.ensures.value c.in_ok-rows.was in
    let whole = rw rows at c.as_array.ensures.cases in
    rw (handed_on c.from_residual-in_err-check_rows.ensures.1 refl)
    (rows_judged _ _ c.check.ensures c.in_ok-check.was whole.long (rw whole.same at c.check_rows.ensures) ∙ c.in_err-check_rows.was)

pub returns : goal.returns
returns c =
    let rows = there _ _ c.ok_or.ensures.value c.in_ok-rows.was in
    let whole = rw rows at c.as_array.ensures.cases in
    (whole.same, rows_judged _ _ c.check.ensures c.in_ok-check.was whole.long (rw whole.same at c.check_rows.ensures) ∙ c.in_ok-check_rows.was)
