-- `bench::Table::take_line` meets its contract.
-- Assumes nothing.
use Prim.Native.Nat.{◌≤◌}
use mathlib.Core.Path.{sym, ap, ◌∙◌}
use Rattle.std.specs.Prelude.{Err, option_map}
use Rattle.block.proofs.Verdicts.{handed_on}
use Rattle.netlist.specs.Forms.{line_form}
use Rattle.netlist.specs.Kept.{line_in}
use Rattle.netlist.proofs.RightGates.{kind_high, gate_kind}
use Rattle.bench.specs.Held.{LineRead}
use Rattle.bench.proofs.Told.{missing, there}
use Rattle.bench.proofs.KeptLines.{line_wrong, line_right, input_told, gate_told}
use Rattle.bench.proofs.Taking.{wrong_taken, nothing_taken}
use Rattle.bench.proofs.Table.take_line.Goals as goal

pub take_gate-requires : goal.take_gate-requires
take_gate-requires c =
    let form = line_form c.args.bytes.now in
    let right = line_right form c.read_line.ensures (ap (option_map line_in) (there _ _ c.ok_or.ensures.value c.in_ok-ok_or.was)) in
    let kind = c.in-Gate.gate.kind in
    let fits = gate_told (λ form. (2 ≤ kind) × (kind ≤ 9)) form right.0 (sym (ap line_in c.in-Gate.is) ∙ right.1)
    (λ name word pins fits same.
    rw (ap (λ given. given.kind) same) (gate_kind name word pins fits, kind_high word)) in
    (c.requires, fits.0, fits.1)

pub returns-in_err-ok_or : goal.returns-in_err-ok_or
returns-in_err-ok_or c names held =
    let line = missing _ _ c.ok_or.ensures.value c.in_err-ok_or.was in
    rw (handed_on c.from_residual.ensures.1 (ap Err line.1))
    (wrong_taken c.args.list.now c.args.self.now names c.args.number (line_form c.args.bytes.now)
    (line_wrong (line_form c.args.bytes.now) c.read_line.ensures (ap (option_map line_in) line.0)))

pub returns-in-Nothing : goal.returns-in-Nothing
returns-in-Nothing c names held =
    let right = line_right (line_form c.args.bytes.now) c.read_line.ensures (ap (option_map line_in) (there _ _ c.ok_or.ensures.value c.in_ok-ok_or.was)) in
    nothing_taken c.args.list.now c.args.self.now names c.args.number (line_form c.args.bytes.now) held right.0 (sym (ap line_in c.in-Nothing.is) ∙ right.1)

pub returns-in-Input : goal.returns-in-Input
returns-in-Input c =
    let form = line_form c.args.bytes.now in
    let right = line_right form c.read_line.ensures (ap (option_map line_in) (there _ _ c.ok_or.ensures.value c.in_ok-ok_or.was)) in
    input_told (λ form. LineRead form c.args.number c.args.list.now c.args.self.now c.take_input.new.self c.take_input.result) form right.0
    (sym (ap line_in c.in-Input.is) ∙ right.1)
    (λ word proper named. c.take_input.ensures word c.args.list.now proper named)

pub returns-in-Gate : goal.returns-in-Gate
returns-in-Gate c =
    let form = line_form c.args.bytes.now in
    let right = line_right form c.read_line.ensures (ap (option_map line_in) (there _ _ c.ok_or.ensures.value c.in_ok-ok_or.was)) in
    gate_told (λ form. LineRead form c.args.number c.args.list.now c.args.self.now c.take_gate.new.self c.take_gate.result) form right.0
    (sym (ap line_in c.in-Gate.is) ∙ right.1) c.take_gate.ensures
