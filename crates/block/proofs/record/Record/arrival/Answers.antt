-- `block::record::Record::arrival` meets its contract.
-- Assumes nothing.
use mathlib.Core.Path.{refl, sym, ◌∙◌}
use Rattle.block.specs.Block.{arrival_from}
use Rattle.block.specs.View.{gate_of}
use Rattle.block.proofs.Fields.{is_input_lem, is_gate_lem, gate_record_lem}
use Rattle.block.proofs.record.Record.arrival.Goals as goal

pub returns-then-kind-eq1 : goal.returns-then-kind-eq1
unfolding arrival_from
returns-then-kind-eq1 c = rw (is_input_lem _ _ (sym c.kind.ensures.0 ∙ c.if-kind-eq1.true)) (c.from.ensures ∙ c.switching_tick.ensures)

pub latest_pin-requires : goal.latest_pin-requires
latest_pin-requires c = gate_record_lem _ _ c.requires (is_gate_lem _ _ (λ e. c.if-kind-eq1.false (c.kind.ensures.0 ∙ e)))

pub returns : goal.returns
unfolding arrival_from gate_of
returns c =
    let gate = is_gate_lem c.args.self.file.now c.args.self.net.0 (λ e. c.if-kind-eq1.false (c.kind.ensures.0 ∙ e)) in
    rw (gate, c.latest_pin.ensures.0, c.delay.ensures.0) refl
