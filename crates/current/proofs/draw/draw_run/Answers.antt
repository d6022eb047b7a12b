-- `current::draw::draw_run` meets its contract.
-- Assumes nothing.
use Rattle.std.proofs.Common.{arith, rules}
use Rattle.sheet.specs.Changes.{wrapped_sum, wrapped_difference}
use Rattle.current.proofs.Runs.{written_by, pulse_drawn, run_drawn}
use Rattle.current.proofs.draw.draw_run.Goals as goal

pub returns-then-first-last : goal.returns-then-first-last
unfolding wrapped_sum wrapped_difference
returns-then-first-last c =
    let range = c.requires.2 in
    pulse_drawn range c.requires.1 c.requires.3 (omega (arith, c.requires.4)) (omega (arith, c.requires.5)) (omega arith) (omega (arith, range.rise_high, range.fall_high)) (omega arith)
    (written_by _ (λ k made h m. search rules) c.change_words.ensures)

pub returns : goal.returns
unfolding wrapped_sum wrapped_difference
returns c =
    let range = c.requires.2 in
    run_drawn range c.requires.1 c.requires.3 (omega (arith, c.requires.4)) (omega (arith, c.requires.5)) (omega arith) (omega (arith, range.rise_high, range.fall_high))
    (written_by _ (λ k made h m. search rules) c.change_words-2.ensures)
    (written_by _ (λ k made h m. search rules) c.change_words-3.ensures)
