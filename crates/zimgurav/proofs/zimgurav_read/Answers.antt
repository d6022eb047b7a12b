-- `zimgurav::zimgurav_read` meets its contract.
-- Assumes nothing.
use mathlib.Core.Path.{ap, ◌∙◌}
use Rattle.operation.specs.Numbers.{read_numbers}
use Rattle.zimgurav.proofs.zimgurav_read.Goals as goal

pub returns : goal.returns
returns c = c.answer_numbers.ensures ∙ ap read_numbers c.read.ensures
