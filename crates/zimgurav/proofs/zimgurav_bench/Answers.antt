-- `zimgurav::zimgurav_bench` meets its contract.
-- Assumes nothing.
use mathlib.Core.Path.{ap, ◌∙◌}
use Rattle.zimgurav.specs.Calls.{bench_numbers}
use Rattle.zimgurav.proofs.zimgurav_bench.Goals as goal

pub returns : goal.returns
returns c =
    let call = c.bench.ensures in
    record { answered = c.answer_numbers.ensures ∙ ap bench_numbers call.answered; written = call.written }
