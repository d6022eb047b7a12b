-- `evaluation::Setting::draw` meets its contract. The loop's invariant: the nets passed are evaluated, and the settling tick is theirs.
-- Assumes nothing.
use Prim.Native.Nat.{◌<◌}
use mathlib.Core.Path.{◌≡◌, refl, ap, sym, ◌∙◌}
use native.Mathlib.Omega.{arith}
use Rattle.laws.specs.Below.{max_below}
use Rattle.laws.proofs.Below.{max_next}
use Rattle.excitation.specs.UncertaintySet.{sets_in}
use Rattle.block.proofs.Accepted.{has_record}
use Rattle.evaluation.specs.Evaluation.{HasRows}
use Rattle.evaluation.proofs.Drawing.{Evaluating, next_checked, next_ready, next_arrives, next_drawable, next_evaluated, all_evaluated, inputs_evaluated}
use Rattle.evaluation.proofs.Settling.{net_settling, settling_is, inputs_settling, next_settling}
use Rattle.evaluation.proofs.Rows.{has_row}
use Rattle.evaluation.proofs.Setting.draw.Goals as goal

pub clear-requires : goal.clear-requires
clear-requires c = c.requires.0.sheet_long

pub make_inputs-requires : goal.make_inputs-requires
make_inputs-requires c =
    let g = c.requires.0 in
    let first = c.args.self.accepted.inputs_first in
    (c.requires.1, record { whole = omega (arith, g.rows.whole, first); numbered = omega (arith, g.rows.numbered, first) })

pub loop-net-init : goal.loop-net-init
loop-net-init c =
    let g = c.requires.0 in
    let file = c.args.self.file.now in
    let setting = c.args.self in
    let made = c.make_inputs.ensures in
    let cleared = c.clear.ensures in (
      refl,
      inputs_evaluated file setting.nets setting.inputs c.args.self.accepted setting.hops c.args.codes.now made cleared,
      sym (inputs_settling file setting.nets setting.inputs c.args.self.accepted),
      omega arith,
    )

pub gate-gate-requires : goal.gate-gate-requires
gate-gate-requires c = has_record _ _ _ _ c.args.self.accepted (omega arith)

pub gate_waveform-requires : goal.gate_waveform-requires
gate_waveform-requires c =
    let g = c.requires.0 in
    let l = c.loop-net in
    let begun = c.make_inputs.ensures.long in
    let file = c.args.self.file.now in
    let setting = c.args.self in
    let sets = sets_in setting.inputs c.args.codes.now in
    let here : l.net < setting.nets = omega arith in
    let rows : HasRows l.work setting.nets = record { whole = omega (arith, g.rows.whole, begun, l.invariant.0); numbered = g.rows.numbered } in
    let read = c.gate-gate.ensures in
    (next_ready file setting.nets setting.inputs c.args.self.accepted setting.hops sets l.invariant.1 (omega arith) (omega arith) here read rows, c.args.self.some_hops)

pub draw_gate-requires : goal.draw_gate-requires
draw_gate-requires c =
    let g = c.requires.0 in
    let l = c.loop-net in
    let begun = c.make_inputs.ensures.long in
    let file = c.args.self.file.now in
    let setting = c.args.self in
    let sets = sets_in setting.inputs c.args.codes.now in
    let here : l.net < setting.nets = omega arith in
    let rows : HasRows l.work setting.nets = record { whole = omega (arith, g.rows.whole, begun, l.invariant.0); numbered = g.rows.numbered } in
    let read = c.gate-gate.ensures in
    let made = c.gate_waveform.ensures in
    next_drawable file setting.nets setting.inputs c.args.self.accepted setting.hops sets l.invariant.1 (omega arith) (omega arith) here read made rows

pub arrival-arrival-requires : goal.arrival-arrival-requires
arrival-arrival-requires c =
    let g = c.requires.0 in
    let l = c.loop-net in
    let begun = c.make_inputs.ensures.long in
    let setting = c.args.self in
    let here : l.net < setting.nets = omega arith in
    let rows : HasRows l.work setting.nets = record { whole = omega (arith, g.rows.whole, begun, l.invariant.0); numbered = g.rows.numbered } in
    let read = c.gate-gate.ensures in
    let made = c.gate_waveform.ensures in
    has_row l.net (record { whole = omega (arith, rows.whole, made.others.long); numbered = rows.numbered }) here

pub last_pulse_end-requires : goal.last_pulse_end-requires
last_pulse_end-requires c =
    let g = c.requires.0 in
    let l = c.loop-net in
    let begun = c.make_inputs.ensures.long in
    let file = c.args.self.file.now in
    let setting = c.args.self in
    let sets = sets_in setting.inputs c.args.codes.now in
    let here : l.net < setting.nets = omega arith in
    let rows : HasRows l.work setting.nets = record { whole = omega (arith, g.rows.whole, begun, l.invariant.0); numbered = g.rows.numbered } in
    let read = c.gate-gate.ensures in
    let made = c.gate_waveform.ensures in
    let ranges = (next_checked file setting.nets setting.inputs c.args.self.accepted setting.hops sets l.invariant.1 (omega arith) (omega arith) here read).ranges in
    let arrives = c.arrival-arrival.ensures in
    (omega (arith, made.arrives, arrives), omega (arith, arrives), omega (arith, ranges.rise_high), omega (arith, ranges.fall_high))

pub loop-net-preserved : goal.loop-net-preserved
loop-net-preserved c =
    let g = c.requires.0 in
    let l = c.loop-net in
    let begun = c.make_inputs.ensures.long in
    let file = c.args.self.file.now in
    let setting = c.args.self in
    let sets = sets_in setting.inputs c.args.codes.now in
    let here : l.net < setting.nets = omega arith in
    let rows : HasRows l.work setting.nets = record { whole = omega (arith, g.rows.whole, begun, l.invariant.0); numbered = g.rows.numbered } in
    let read = c.gate-gate.ensures in
    let made = c.gate_waveform.ensures in
    let arrives = c.arrival-arrival.ensures.0 ∙ next_arrives file setting.nets setting.inputs c.args.self.accepted setting.hops sets l.invariant.1 (omega arith) (omega arith) here read made in
    let flow = next_settling file setting.nets setting.inputs c.args.self.accepted l.net (omega arith) here read arrives c.last_pulse_end.ensures in (
      made.others.long ∙ l.invariant.0,
      next_evaluated file setting.nets setting.inputs c.args.self.accepted setting.hops sets l.invariant.1 (omega arith) (omega arith) here read made c.draw_gate.ensures,
      c.max-settling.ensures ∙ rw (l.invariant.2, flow.0) (sym (max_next l.net (net_settling file))),
      omega (arith, c.max-settling.ensures, flow.1),
    )

pub shape_of-sheet : goal.shape_of-sheet
shape_of-sheet c = c.loop-net.invariant.1.long ∙ sym c.requires.0.sheet_long

pub shape_of-work : goal.shape_of-work
shape_of-work c = c.loop-net.invariant.0 ∙ c.make_inputs.ensures.long

pub returns : goal.returns
returns c =
    let g = c.requires.0 in
    let l = c.loop-net in
    let file = c.args.self.file.now in
    let setting = c.args.self in
    let e : l.net ≡ setting.nets = omega (arith, c.args.self.accepted.inputs_first) in
    let done : Evaluating file setting.hops (sets_in setting.inputs c.args.codes.now) setting.nets l.work l.sheet = rw e at l.invariant.1 in
    record {
      long = done.long;
      at = all_evaluated file setting.nets setting.inputs c.args.self.accepted setting.hops _ done;
      most = λ t h. omega (arith, done.most t h, c.args.self.accepted.few_nets);
      settled = l.invariant.2 ∙ ap (λ n. max_below n (net_settling file)) (e ∙ sym c.args.self.accepted.net_count_lem) ∙ settling_is file;
      soon = l.invariant.3;
    }
