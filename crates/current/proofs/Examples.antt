-- The examples of pulses and of block F, by evaluation.
-- Assumes nothing.
use Rattle.std.proofs.Common.{refl}
use Rattle.laws.specs.Below.{any_below, max_below, last_below, sum_below, count_below}
use Rattle.laws.specs.Turn.{in_turn, list_below}
use Rattle.excitation.specs.UncertaintySet.{member, decode, join_sets, each}
use Rattle.block.specs.Block.{switching_tick, inputs_below, frame}
use Rattle.block.specs.Gate.{gate_value}
use Rattle.block.specs.Kind.{kind_of}
use Rattle.block.specs.Record.{is_input}
use Rattle.block.specs.View.{gate_of}
use Rattle.sheet.specs.Sheet.{drop_at, drop_of, flows_at, quiet_tick}
use Rattle.runs.specs.Runs.{extend, runs_from, inside, ticks_inside}
use Rattle.fill.specs.Gaps.{gaps_after, gaps, shorter, shortest, close, close_first, close_shortest, close_while, merged}
use Rattle.fill.specs.Fill.{holding, fill_ticks, sets_holding, filled}
use Rattle.waveform.specs.Waveform.{earlier, input_waveform, gate_from, pin_waveform, gate_at, gate_waveform, net_waveform, waveforms}
use Rattle.current.specs.Current.{edge_pulse, allowed_pulse, gate_current, transitions_from, draws_at, part, contact_current, transitions_of, sheet_of}
use Rattle.current.specs.Examples.{CurrentExamples}
use Rattle.current.specs.Pulse.{level_after, pulse, pulse_at}
use Rattle.current.specs.Rounding.{even_of, nearest}

pub current_examples : CurrentExamples
unfolding any_below max_below last_below sum_below count_below in_turn list_below member decode join_sets each is_input gate_of kind_of gate_value switching_tick inputs_below frame extend runs_from gaps_after gaps shorter shortest close close_first close_shortest close_while merged inside holding ticks_inside fill_ticks sets_holding filled earlier input_waveform gate_from pin_waveform gate_at gate_waveform net_waveform waveforms even_of nearest level_after pulse pulse_at edge_pulse allowed_pulse gate_current transitions_from draws_at part contact_current drop_at drop_of flows_at quiet_tick transitions_of sheet_of
current_examples = record {
  pulse_31 = refl;
  pulse_7 = λ f. refl;
  half_33 = refl;
  envelope_0 = refl;
  envelope_1 = refl;
  both_lh = refl;
  envelope_drop_lem = refl;
  simulated_drop_lem = refl;
  envelope_quiet = refl;
  simulated_quiet = refl;
}
