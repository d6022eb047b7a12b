-- `bench::walk::take_text` meets its contract.
-- Assumes nothing.
use mathlib.Core.Path.{refl, sym, ◌∙◌}
use native.Mathlib.Omega.{arith}
use borrow.Author.Tests.{eqb-true, eqb-false}
use Rattle.block.proofs.Verdicts.{handed_on}
use Rattle.bench.proofs.WholeText.{refused_by_lines, no_bytes, all_full, text_ended, later_refused, later_gives}
use Rattle.bench.proofs.walk.take_text.Goals as goal

pub returns-in_err-progress : goal.returns-in_err-progress
returns-in_err-progress c =
    rw (handed_on c.from_residual.ensures.1 refl) (refused_by_lines _ _ _ _ (c.begin.ensures.refused _ c.in_err-progress.was))

pub returns-then-all_taken : goal.returns-then-all_taken
returns-then-all_taken c =
    let nothing = no_bytes _ (eqb-true _ 0 (sym c.is_empty-all_taken.ensures ∙ c.if-all_taken.true)) in
    text_ended (c.begin.ensures.accepted _ c.in_ok-progress.was).0 nothing

pub returns-in_err-more : goal.returns-in_err-more
returns-in_err-more c =
    let begun = c.begin.ensures.accepted _ c.in_ok-progress.was in
    rw (handed_on c.from_residual-in_err-more.ensures.1 refl)
    (later_refused begun.0 (all_full (omega arith) begun.1 (eqb-false _ 0 (sym c.is_empty-all_taken.ensures ∙ c.if-all_taken.false))) c.begin.new.table.sized
    (rw c.held.ensures at c.judge_later.ensures) c.in_err-more.was)

pub returns : goal.returns
returns c =
    let begun = c.begin.ensures.accepted _ c.in_ok-progress.was in
    rw c.check.ensures
    (later_gives begun.0 (all_full (omega arith) begun.1 (eqb-false _ 0 (sym c.is_empty-all_taken.ensures ∙ c.if-all_taken.false))) c.begin.new.table.sized
    (rw c.held.ensures at c.judge_later.ensures) _ c.in_ok-more.was)
