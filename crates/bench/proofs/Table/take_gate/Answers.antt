-- `bench::Table::take_gate` meets its contract.
-- Assumes nothing.
use mathlib.Core.List.{◌++◌}
use mathlib.Core.Path.{refl, ap, ◌∙◌}
use Rattle.std.specs.Prelude.{Err}
use Rattle.block.proofs.Verdicts.{handed_on}
use Rattle.bench.specs.Held.{made_records}
use Rattle.bench.proofs.Told.{missing, there}
use Rattle.bench.proofs.Lookups.{placed}
use Rattle.bench.proofs.Taking.{gate_unknown, gate_again, gate_taken}
use Rattle.bench.proofs.Table.take_gate.Goals as goal

pub returns-in_err-nets : goal.returns-in_err-nets
returns-in_err-nets c =
    let nets = missing _ _ c.ok_or.ensures.value c.in_err-nets.was in
    rw (handed_on c.from_residual.ensures.1 (ap Err nets.1)) (gate_unknown (rw c.held.ensures at c.pin_nets.ensures) nets.0)

pub returns-in_err-check : goal.returns-in_err-check
returns-in_err-check c =
    rw (handed_on c.from_residual-in_err-check.ensures.1 refl)
    (gate_again _ _ (rw c.held.ensures at c.pin_nets.ensures) (there _ _ c.ok_or.ensures.value c.in_ok-nets.was)
    (placed _ _ _ (rw c.held-2.ensures at c.position.ensures)) c.is_some-again.ensures c.check.ensures c.in_err-check.was)

pub returns : goal.returns
returns c =
    gate_taken _ _ (rw c.held.ensures at c.pin_nets.ensures) (there _ _ c.ok_or.ensures.value c.in_ok-nets.was)
    (placed _ _ _ (rw c.held-2.ensures at c.position.ensures)) c.is_some-again.ensures c.check.ensures c.in_ok-check.was
    (record {
      names = c.add.ensures.names;
      made = c.add.ensures.records ∙ ap (λ bytes. made_records c.args.self.now ++ bytes) c.gate_record-record.ensures;
    })
    refl
