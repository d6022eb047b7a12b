-- `bench::making::gate_record` meets its contract.
-- Assumes nothing.
use mathlib.Core.Path.{ap, ◌∙◌}
use lib.ListN.{get_or}
use Rattle.bench.specs.Records.{gate_record}
use Rattle.bench.proofs.RecordBytes.{gate_bytes}
use Rattle.bench.proofs.making.gate_record.Goals as goal

pub returns : goal.returns
returns c =
    let given = c.args in
    gate_bytes given.list.now given.gate.now.kind c.len.result (λ p. get_or given.nets p 0) _ _ _ _ _ _ _ _
    (ap (λ bytes. get_or bytes 0 0) c.bytes_of-first.ensures)
    (ap (λ bytes. get_or bytes 1 0) c.bytes_of-first.ensures)
    (ap (λ bytes. get_or bytes 0 0) c.bytes_of-second.ensures)
    (ap (λ bytes. get_or bytes 1 0) c.bytes_of-second.ensures)
    (ap (λ bytes. get_or bytes 0 0) c.bytes_of-third.ensures)
    (ap (λ bytes. get_or bytes 1 0) c.bytes_of-third.ensures)
    (ap (λ bytes. get_or bytes 0 0) c.bytes_of-fourth.ensures)
    (ap (λ bytes. get_or bytes 1 0) c.bytes_of-fourth.ensures)
    ∙ ap (λ used. gate_record given.list.now given.gate.now.kind used (λ p. get_or given.nets p 0)) c.len.ensures.value
