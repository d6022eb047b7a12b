-- `zimgurav::zimgurav_envelope` meets its contract.
-- Assumes nothing.
use mathlib.Core.Path.{ap, ◌∙◌}
use Rattle.operation.specs.Numbers.{currents_numbers}
use Rattle.zimgurav.proofs.zimgurav_envelope.Goals as goal

pub returns : goal.returns
returns c =
    let call = c.envelope.ensures in
    record { answered = c.answer_numbers.ensures ∙ ap currents_numbers call.answered; written = call.written; kept = call.kept }
