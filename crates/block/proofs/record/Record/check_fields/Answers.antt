-- `block::record::Record::check_fields` meets its contract.
-- Assumes nothing.
use mathlib.Core.Path.{ap, sym, ◌∙◌}
use Rattle.block.specs.declared.verdict.Reason.TheVariants.{UnknownKind}
use Rattle.block.specs.Refusals.{within, kind_known, field_checks}
use Rattle.block.proofs.Fields.{is_input_lem, is_gate_lem}
use Rattle.block.proofs.Verdicts.{judged_later}
use Rattle.block.proofs.record.Record.check_fields.Goals as goal

pub returns-then-kind-eq1 : goal.returns-then-kind-eq1
unfolding field_checks kind_known
returns-then-kind-eq1 c =
    let kind = c.kind-kind.ensures.0 in
    let to4 = judged_later UnknownKind _ c.check.ensures (c.in_range.ensures ∙ ap (within 1 9) kind) _ (c.in_ok-check.was) in
    let input = is_input_lem c.args.self.file.now c.args.self.net.0 (sym kind ∙ c.if-kind-eq1.true) in
    rw input (to4 c.check_input.ensures)

pub returns-else-kind-eq1 : goal.returns-else-kind-eq1
unfolding field_checks kind_known
returns-else-kind-eq1 c =
    let kind = c.kind-kind.ensures.0 in
    let to4 = judged_later UnknownKind _ c.check.ensures (c.in_range.ensures ∙ ap (within 1 9) kind) _ (c.in_ok-check.was) in
    let gate = is_gate_lem c.args.self.file.now c.args.self.net.0 (λ e. c.if-kind-eq1.false (kind ∙ e)) in
    rw gate (to4 c.check_gate.ensures)
