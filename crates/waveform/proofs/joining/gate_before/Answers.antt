-- `waveform::joining::gate_before` meets its contract.
-- Assumes nothing.
use Rattle.waveform.proofs.Pins.{before_joined, before_inverted}
use Rattle.waveform.proofs.joining.gate_before.Goals as goal

pub returns-then-rule : goal.returns-then-rule
returns-then-rule c =
    let s = c.args in
    before_inverted s.gate _ c.gate_rule-rule.ensures s.work.now _ c.join_before-joined.ensures _ c.invert.ensures c.if-rule.true

pub returns-else-rule : goal.returns-else-rule
returns-else-rule c =
    let s = c.args in
    before_joined s.gate _ c.gate_rule-rule.ensures s.work.now _ c.join_before-joined.ensures c.if-rule.false
