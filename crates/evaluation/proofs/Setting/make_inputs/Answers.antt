-- `evaluation::Setting::make_inputs` meets its contract.
-- Assumes nothing.
use native.Mathlib.Omega.{arith}
use Rattle.evaluation.proofs.Rows.{has_row, inputs_none, inputs_next}
use Rattle.evaluation.proofs.Setting.make_inputs.Goals as goal

pub loop-net-init : goal.loop-net-init
loop-net-init c = inputs_none _ _ _

pub of-requires : goal.of-requires
of-requires c = record { whole = omega (arith, c.args.self.accepted.whole, c.args.self.accepted.inputs_first); numbered = omega (arith, c.requires.1.numbered) }

pub bounds-codes-net : goal.bounds-codes-net
bounds-codes-net c = omega (arith, c.requires.0.enough)

pub input_waveform-requires : goal.input_waveform-requires
input_waveform-requires c = let l = c.loop-net in (has_row l.net (record { whole = omega (arith, c.requires.1.whole, l.invariant.long); numbered = c.requires.1.numbered }) (omega arith), c.requires.0.low l.net (omega arith))

pub loop-net-preserved : goal.loop-net-preserved
loop-net-preserved c =
    let l = c.loop-net in
    inputs_next _ l.net _ _ l.work _ l.invariant
    (rw (c.switching_tick-switching.ensures, c.of.ensures.0, c.of.ensures.1) at c.input_waveform.ensures)

pub shape_of-work : goal.shape_of-work
shape_of-work c = c.loop-net.invariant.long
