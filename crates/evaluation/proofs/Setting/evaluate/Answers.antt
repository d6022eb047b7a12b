-- `evaluation::Setting::evaluate` meets its contract.
-- Assumes nothing.
use borrow.Author.Rules.{rules}
use Rattle.evaluation.proofs.Settling.{restored_droppable, evaluated}
use Rattle.evaluation.proofs.Setting.evaluate.Goals as goal

pub currents_of-requires : goal.currents_of-requires
currents_of-requires c = restored_droppable c.draw-settling.ensures c.restore_rows.ensures (λ i. search rules)

pub returns : goal.returns
returns c =
    evaluated c.draw-settling.ensures c.restore_rows.ensures (λ i. search rules)
    c.currents_of.ensures.0 c.currents_of.ensures.1
